-- `data_port::reads::empty` meets its contract. The store is the law's.
-- Assumes nothing.
use borrow.Author.Rules.{rules}
use Rattle.state.proofs.Laws.Changed.{stored-emptied}
use Rattle.data_port.proofs.reads.empty.Goals as goal

pub returns : goal.returns
returns c = stored-emptied (search rules) c.with_output.ensures
