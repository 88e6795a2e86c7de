-- `devices::sending::stop_sending` meets its contract. The stores are the law's.
-- Assumes nothing.
use borrow.Author.Rules.{rules}
use Rattle.state.proofs.Laws.Changed.{stored-sending}
use Rattle.devices.proofs.sending.stop_sending.Goals as goal

pub returns : goal.returns
returns c = stored-sending (search rules)
