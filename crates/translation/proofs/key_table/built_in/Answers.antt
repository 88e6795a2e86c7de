-- `translation::key_table::built_in` meets its contract: the table of the code computes to the definition's.
-- Assumes nothing.
use mathlib.Core.Path.{refl}
use Rattle.translation.specs.KeyTable.{rows, built_in}
use Rattle.translation.proofs.key_table.built_in.Goals as goal

pub returns : goal.returns
unfolding rows built_in
returns c = refl
