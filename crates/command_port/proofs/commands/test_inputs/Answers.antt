-- `command_port::commands::test_inputs` meets its contract. The mode's test picks the case of the definition.
-- Assumes nothing.
use Rattle.machine.proofs.Laws.Commands.{test_inputs-at, test_inputs-ps2}
use Rattle.command_port.proofs.commands.test_inputs.Goals as goal

pub returns-then-at_mode : goal.returns-then-at_mode
returns-then-at_mode c = search test_inputs-at

pub returns-else-at_mode : goal.returns-else-at_mode
returns-else-at_mode c = search test_inputs-ps2
