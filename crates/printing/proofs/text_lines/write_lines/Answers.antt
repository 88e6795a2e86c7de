-- `printing::text_lines::write_lines` meets its contract: after the last nine bytes all lines are written. Assumes nothing.
use native.Mathlib.Omega.{arith}
use Rattle.printing.proofs.Laws.Lines.{lines_written}
use Rattle.printing.proofs.text_lines.write_lines.Goals as goal

pub returns : goal.returns
returns c =
    let cut = c.as_chunks.ensures in
    lines_written _ _ _ _ c.loop-i.i cut.front cut.front_len (omega arith) c.loop-i.invariant
