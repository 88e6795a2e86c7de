-- `command_port::commands::set_lock` meets its contract. The store is the law's.
-- Assumes nothing.
use borrow.Author.Rules.{rules}
use Rattle.state.proofs.Laws.Changed.{stored-lock_set}
use Rattle.command_port.proofs.commands.set_lock.Goals as goal

pub returns : goal.returns
returns c = stored-lock_set (search rules) c.with_locked.ensures
