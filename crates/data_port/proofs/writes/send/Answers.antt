-- `data_port::writes::send` meets its contract. The store is the law's.
-- Assumes nothing.
use borrow.Author.Rules.{rules}
use Rattle.state.proofs.Laws.Changed.{stored-sending}
use Rattle.data_port.proofs.writes.send.Goals as goal

pub returns : goal.returns
returns c = rw c.number.ensures (stored-sending (search rules))
