-- `lines::lines::cell` meets its contract. The RAM's cells are the bytes from 28 on.
-- Assumes nothing.
use Rattle.lines.proofs.Laws.Lines.{cell_of-at, cell_of-none}
use Rattle.lines.proofs.lines.cell.Goals as goal

pub returns-then-k-lt32 : goal.returns-then-k-lt32
returns-then-k-lt32 c = search (cell_of-at)

pub returns-else-k-lt32 : goal.returns-else-k-lt32
returns-else-k-lt32 c = search (cell_of-none)
