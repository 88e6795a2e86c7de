-- `printing::text_lines::write_lines` meets its contract. The loop's invariant: the lines so far are at the front of the buffer. Assumes nothing.
use Rattle.std.proofs.Common.{◌≡◌, ◌++◌, ◌*◌, take, drop}
use Rattle.std.specs.List.{flat_map}
use Rattle.printing.specs.Lines.{line}
use Rattle.printing.proofs.text_lines.write_lines.Given as goal

abbrev pub invariant-loop-i : goal.invariant-loop-i
invariant-loop-i l = l.out ≡ flat_map line (take l.i l.nines) ++ drop (27 * l.i) l.fn.out
