-- `lines::lines::overlay_shown` meets its contract. The set's test picks the case of the definition.
-- Assumes nothing.
use native.Mathlib.Omega.{arith}
use Rattle.machine.proofs.Laws.Lines.{overlay_shown-second, overlay_shown-first}
use Rattle.lines.proofs.lines.overlay_shown.Goals as goal

pub returns-then-second_set : goal.returns-then-second_set
returns-then-second_set c = (search overlay_shown-second, c.upper.ensures.1)

pub returns-else-second_set : goal.returns-else-second_set
returns-else-second_set c = (overlay_shown-first _ c.second_set.ensures c.if-second_set.false, omega arith)
