-- `command_port::commands::ask_code` meets its contract. The two answers are the definition's.
-- Assumes nothing.
use Rattle.state.proofs.Laws.Changed.{by_rule}
use Rattle.machine.proofs.Laws.Commands.{code_asked-some, code_asked-none}
use Rattle.command_port.proofs.commands.ask_code.Goals as goal

pub returns-then-has_code-second_set : goal.returns-then-has_code-second_set
returns-then-has_code-second_set c = search (by_rule, code_asked-some)

pub returns-else-has_code-second_set : goal.returns-else-has_code-second_set
returns-else-has_code-second_set c = search (by_rule, code_asked-none)
