-- `lines::lines::put_cell` meets its contract. A cell that is 0 puts nothing, any other is put: the two laws of `put_cell`.
-- Assumes nothing.
use Rattle.state.proofs.Laws.Changed.{kept-change, by_rule, untouched}
use Rattle.machine.proofs.Laws.KeptLines.{put_cell-kept}
use Rattle.machine.proofs.Laws.Lines.{put_cell_zero, put_cell-byte}
use Rattle.lines.proofs.lines.put_cell.Goals as goal

pub returns-then-byte-ne0 : goal.returns-then-byte-ne0
returns-then-byte-ne0 c = kept-change (by_rule c.put.ensures.change (search put_cell-byte)) (λ k. put_cell-kept k _)

pub returns-else-byte-ne0 : goal.returns-else-byte-ne0
returns-else-byte-ne0 c = kept-change (untouched (search put_cell_zero)) (λ k. put_cell-kept k _)
