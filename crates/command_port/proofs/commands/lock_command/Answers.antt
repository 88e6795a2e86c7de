-- `command_port::commands::lock_command` meets its contract. With a code, the two changes follow one another; without, there is none.
-- Assumes nothing.
use Rattle.state.proofs.Laws.Changed.{untouched, by_two}
use Rattle.machine.proofs.Laws.Commands.{lock_command_some, lock_command-none}
use Rattle.command_port.proofs.commands.lock_command.Goals as goal

pub returns-then-has_code : goal.returns-then-has_code
returns-then-has_code c = search (by_two, lock_command_some)

pub returns-else-has_code : goal.returns-else-has_code
returns-else-has_code c = search (untouched, lock_command-none)
