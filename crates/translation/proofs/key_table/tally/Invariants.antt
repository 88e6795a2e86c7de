-- `translation::key_table::tally` meets its contract. The loop's invariant: `seen` counts the keys so far.
-- Assumes nothing.
use Rattle.translation.specs.KeyTable.{keys}
use Rattle.translation.proofs.KeyTable.{Tallied}
use Rattle.translation.proofs.key_table.tally.Given as goal

abbrev pub invariant-loop-key : goal.invariant-loop-key
invariant-loop-key l = Tallied (keys l.table) l.key-index l.seen
