-- `lines::lines::high_status` meets its contract. The overlay's test picks the case of the definition.
-- Assumes nothing.
use borrow.Author.Tests.{ne_eqb}
use Rattle.machine.proofs.Laws.Lines.{high_with-lines}
use Rattle.lines.proofs.lines.high_status.Goals as goal

pub returns-else-s-eq1 : goal.returns-else-s-eq1
returns-else-s-eq1 c = (search (high_with-lines, ne_eqb), c.upper.ensures.1)
