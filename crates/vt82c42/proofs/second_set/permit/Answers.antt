-- `vt82c42::second_set::permit` meets its contract. The store is the law's.
-- Assumes nothing.
use borrow.Author.Rules.{rules}
use Rattle.state.proofs.Laws.Changed.{stored-permitted}
use Rattle.vt82c42.proofs.second_set.permit.Goals as goal

pub returns : goal.returns
returns c = stored-permitted (search rules) _ c.nibble.ensures.0
