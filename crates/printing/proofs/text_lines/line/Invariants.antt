-- `printing::text_lines::line` meets its contract. The loop's invariant: the bytes so far are written, each with its space. Assumes nothing.
use Rattle.std.proofs.Common.{◌≡◌, ◌++◌, ◌*◌, take, drop}
use Rattle.std.specs.List.{flat_map}
use Rattle.printing.proofs.Laws.Lines.{field}
use Rattle.printing.proofs.text_lines.line.Given as goal

abbrev pub invariant-loop-i : goal.invariant-loop-i
invariant-loop-i l = l.text ≡ flat_map field (take l.i l.bytes) ++ drop (3 * l.i) l.initial.text
