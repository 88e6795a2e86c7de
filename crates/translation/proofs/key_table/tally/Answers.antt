-- `translation::key_table::tally` meets its contract: each key is a byte, and no count goes past the number of keys.
-- Assumes nothing.
use Rattle.std.proofs.Common.{ℕ, ◌<◌, List, get_or, drop, refl, ap, ◌∙◌, arith, rules, length-take}
use lib.Seq.{take_all}
use mir.Val.{Fits}
use mir.Syntax.{w8}
use Rattle.translation.specs.KeyTable.{keys, occurrences}
use Rattle.translation.proofs.Lists.{below_take, below_drop}
use Rattle.translation.proofs.KeyTable.{tallied_none, tallied_next, tallied_most}
use Rattle.translation.proofs.key_table.tally.Goals as goal

-- the keys of a table of bytes
key_below : (table : List ℕ) → ((i : ℕ) → Fits w8 (get_or table i 0)) → (k : ℕ) → get_or (keys table) k 0 < 256
key_below table bytes = below_take 256 0x7F _ (omega arith) (below_drop 256 1 table (λ k. (bytes k).fits))

pub loop-key-init : goal.loop-key-init
loop-key-init c = tallied_none (keys c.args.table.now)

pub overflow_add-seen : goal.overflow_add-seen
overflow_add-seen c =
    omega
    (arith, tallied_most c.loop-key.invariant (key_below c.args.table.now (λ i. search rules) c.loop-key.key-index), length-take 0x7F (drop 1 c.args.table.now))

pub loop-key-preserved : goal.loop-key-preserved
loop-key-preserved c =
    tallied_next c.loop-key.invariant c.loop-key-test.true refl (key_below c.args.table.now (λ i. search rules) c.loop-key.key-index)

pub returns : goal.returns
returns c =
    λ v below. c.loop-key.invariant.times v below ∙ ap (occurrences v) (take_all c.loop-key.key-index (keys c.args.table.now) c.loop-key-test.false)
