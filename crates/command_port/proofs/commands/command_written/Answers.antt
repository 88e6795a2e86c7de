-- `command_port::commands::command_written` meets its contract. The store is the law's.
-- Assumes nothing.
use Rattle.state.proofs.Laws.Changed.{stored-command}
use Rattle.command_port.proofs.commands.command_written.Goals as goal

pub returns : goal.returns
returns c = search stored-command
