-- `lines::lines::output_port` meets its contract. The mode's test picks the case of the definition.
-- Assumes nothing.
use Rattle.machine.proofs.Laws.Lines.{output_port-at, output_port-ps2}
use Rattle.lines.proofs.lines.output_port.Goals as goal

pub returns-then-at_mode : goal.returns-then-at_mode
returns-then-at_mode c = search output_port-at

pub returns-else-at_mode : goal.returns-else-at_mode
returns-else-at_mode c = search output_port-ps2
