-- `vt82c42::second_set::latch_high` meets its contract. The store is the law's.
-- Assumes nothing.
use mathlib.Core.Path.{refl}
use borrow.Author.Rules.{rules}
use Rattle.state.proofs.Laws.Changed.{by_rule, stored-high_latches}
use Rattle.vt82c42.proofs.second_set.latch_high.Goals as goal

pub returns : goal.returns
returns c = by_rule (stored-high_latches (search rules) _ _ _ c.nibble.ensures.0) refl
