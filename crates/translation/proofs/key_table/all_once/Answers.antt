-- `translation::key_table::all_once` meets its contract: the counts of 01h-7Fh are the definition's.
-- Assumes nothing.
use Rattle.std.proofs.Common.{◌≡◌, ℕ, ◌+◌, length, take, drop, ap, ◌∙◌, arith, rules, length-take, length-drop}
use Rattle.std.proofs.lemmas.Iterator.{YieldsList-from_slice}
use Rattle.std.proofs.lemmas.Iterator.Search.{all_from_yields_List}
use lib.Dec.{eqb}
use lib.Seq.{get_or-take, get_or-drop}
use Rattle.translation.specs.KeyTable.{numbers_from, each_once}
use Rattle.translation.proofs.KeyTable.{each_once-counted}
use Rattle.translation.proofs.key_table.all_once.Goals as goal

pub returns : goal.returns
returns c = λ xs counted.
    let times = take 0x7F (drop 1 c.args.seen) in
    let whole : length c.args.seen ≡ 256 = search rules in
    let long : length times ≡ 0x7F = simp (length-take, length-drop) (omega arith) in
    all_from_yields_List (λ n. eqb n 1) _ _ _ c.all.ensures.ran (YieldsList-from_slice times cc) (λ x b q k. search rules)
    ∙ each_once-counted 1 times xs (λ k h. get_or-take 0x7F (drop 1 c.args.seen) k 0 (omega arith) ∙ get_or-drop 1 c.args.seen k 0 ∙ counted (1 + k) (omega arith))
    ∙ ap (λ (n : ℕ). each_once (numbers_from 1 n) xs) long
