-- `vt82c42::second_set::set_output_lines` meets its contract. The stores are the law's.
-- Assumes nothing.
use mathlib.Core.Path.{refl}
use borrow.Author.Rules.{rules}
use Rattle.state.proofs.Laws.Changed.{by_rule, stored_output_latches}
use Rattle.vt82c42.proofs.second_set.set_output_lines.Goals as goal

pub returns : goal.returns
returns c = by_rule (stored_output_latches (search rules) _ _ _ _ _ c.nibble.ensures.0 c.nibble-2.ensures.0) refl
