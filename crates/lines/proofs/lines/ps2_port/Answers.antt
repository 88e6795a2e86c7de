-- `lines::lines::ps2_port` meets its contract. It is the sum that the definition has, each callee's result put in.
-- Assumes nothing.
use Rattle.machine.proofs.Laws.Lines.{ps2_port-sum}
use Rattle.lines.proofs.lines.ps2_port.Goals as goal

pub returns : goal.returns
returns c = search ps2_port-sum
