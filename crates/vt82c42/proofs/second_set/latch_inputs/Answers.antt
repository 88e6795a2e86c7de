-- `vt82c42::second_set::latch_inputs` meets its contract. The store is the law's.
-- Assumes nothing.
use borrow.Author.Rules.{rules}
use Rattle.state.proofs.Laws.Changed.{stored-input_latches}
use Rattle.vt82c42.proofs.second_set.latch_inputs.Goals as goal

pub returns : goal.returns
returns c = stored-input_latches (search rules)
