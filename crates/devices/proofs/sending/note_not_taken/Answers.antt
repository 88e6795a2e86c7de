-- `devices::sending::note_not_taken` meets its contract. The stores are the law's.
-- Assumes nothing.
use borrow.Author.Rules.{rules}
use Rattle.state.proofs.Laws.Changed.{stored-not_taken}
use Rattle.devices.proofs.sending.note_not_taken.Goals as goal

pub returns : goal.returns
returns c = stored-not_taken (search rules) c.at_mode-in_at_mode.ensures c.weight.ensures.0 c.with_errors.ensures
