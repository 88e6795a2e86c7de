-- `data_port::writes::append` meets its contract. The store is the law's: there is room for one more byte.
-- Assumes nothing.
use borrow.Author.Rules.{rules}
use Rattle.state.proofs.Laws.Changed.{stored-appended}
use Rattle.data_port.proofs.writes.append.Goals as goal

pub returns : goal.returns
returns c = stored-appended (search rules) (search rules)
