-- `printing::text_lines::line` meets its contract: after the ninth byte the last space becomes LF. Assumes nothing.
use mathlib.Core.Path.{refl}
use native.Mathlib.Omega.{arith}
use Rattle.printing.proofs.Laws.Lines.{line_of}
use Rattle.printing.proofs.text_lines.line.Goals as goal

pub returns : goal.returns
returns c = line_of _ _ _ c.loop-i.i (omega arith) refl (omega arith) c.loop-i.invariant
