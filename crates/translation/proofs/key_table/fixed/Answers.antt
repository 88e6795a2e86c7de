-- `translation::key_table::fixed` meets its contract: it makes the definition's tests.
-- Assumes nothing.
use Rattle.std.proofs.Common.{[], ◌∷◌, ◌∙◌, rules}
use Rattle.std.proofs.lemmas.Iterator.{YieldsList-from_slice}
use Rattle.std.proofs.lemmas.Iterator.Search.{all_from_yields_List}
use Rattle.translation.specs.KeyTable.{own, fixed}
use borrow.Author.Tests.{ne_eqb}
use Rattle.translation.proofs.Tests.{and_one}
use Rattle.translation.proofs.key_table.fixed.Goals as goal

pub returns-then-table-eq255 : goal.returns-then-table-eq255
unfolding fixed
returns-then-table-eq255 c =
    all_from_yields_List (own c.args.table.now) _ _ _ c.all.ensures.ran (YieldsList-from_slice (0xE0 ∷ 0xE1 ∷ 0xEE ∷ 0xF0 ∷ 0xFA ∷ 0xFE ∷ []) cc) (λ x b q k. search rules) ∙ simp (c.if-table-eq255.true, and_one)

pub returns-else-table-eq255 : goal.returns-else-table-eq255
unfolding fixed
returns-else-table-eq255 c = simp (ne_eqb _ _ c.if-table-eq255.false)
