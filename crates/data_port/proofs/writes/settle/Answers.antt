-- `data_port::writes::settle` meets its contract. The store is the law's.
-- Assumes nothing.
use borrow.Author.Rules.{rules}
use Rattle.state.proofs.Laws.Changed.{stored-settled}
use Rattle.data_port.proofs.writes.settle.Goals as goal

pub returns : goal.returns
returns c = stored-settled (search rules)
