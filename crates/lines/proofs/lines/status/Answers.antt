-- `lines::lines::status` meets its contract. It is the sum that the definition has, each callee's result put in.
-- Assumes nothing.
use Rattle.machine.specs.Lines.{status, high_nibble}
use Rattle.lines.proofs.lines.status.Goals as goal

pub returns : goal.returns
unfolding status high_nibble
returns c = cc
