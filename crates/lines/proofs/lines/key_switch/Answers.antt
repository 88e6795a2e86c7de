-- `lines::lines::key_switch` meets its contract. P17 has no latch, so its pin is what is read.
-- Assumes nothing.
use Rattle.machine.proofs.Laws.Lines.{key_switch_pin}
use Rattle.lines.proofs.lines.key_switch.Goals as goal

pub returns : goal.returns
returns c = key_switch_pin _
