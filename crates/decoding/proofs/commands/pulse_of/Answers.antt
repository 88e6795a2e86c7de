-- `decoding::commands::pulse_of` meets its contract. The test is the definition's.
-- Assumes nothing.
use Rattle.machine.proofs.Laws.Commands.{pulse_of_some, pulse_of-none}
use Rattle.decoding.proofs.commands.pulse_of.Goals as goal

pub returns-then-c-ge240 : goal.returns-then-c-ge240
returns-then-c-ge240 c = search pulse_of_some

pub returns-else-c-ge240 : goal.returns-else-c-ge240
returns-else-c-ge240 c = search pulse_of-none
