-- `data_port::writes::data_written` meets its contract. The store is the law's.
-- Assumes nothing.
use borrow.Author.Rules.{rules}
use Rattle.state.proofs.Laws.Changed.{stored-data_written}
use Rattle.data_port.proofs.writes.data_written.Goals as goal

pub returns : goal.returns
returns c = stored-data_written (search rules) c.with_command.ensures
