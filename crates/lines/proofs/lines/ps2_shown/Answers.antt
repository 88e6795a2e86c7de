-- `lines::lines::ps2_shown` meets its contract. Each case of the output buffer has its law.
-- Assumes nothing.
use native.Mathlib.Omega.{arith}
use Rattle.machine.proofs.Laws.Lines.{shown-empty, shown-mouse, shown-keyboard}
use Rattle.lines.proofs.Laws.Lines.{low_most}
use Rattle.lines.proofs.lines.ps2_shown.Goals as goal

pub returns-then-not-output_full : goal.returns-then-not-output_full
returns-then-not-output_full c =
    let low = c.nibble-low.ensures.0 in (
      shown-empty _ c.mouse_off.ensures c.keyboard_off.ensures low c.nibble.ensures.0
          c.weight.ensures.0 c.output_full.ensures c.if-not-output_full.true c.high_status.ensures.0,
      omega (arith, low_most _ _ low, c.high_status.ensures.1),
    )

pub overflow_add-result-then-from_mouse-2 : goal.overflow_add-result-then-from_mouse-2
overflow_add-result-then-from_mouse-2 c =
    let low = c.nibble-low.ensures.0 in
    omega (arith, low_most _ _ low, c.high_status-then-from_mouse.ensures.1)

pub overflow_add-result-else-from_mouse-2 : goal.overflow_add-result-else-from_mouse-2
overflow_add-result-else-from_mouse-2 c =
    let low = c.nibble-low.ensures.0 in
    omega (arith, low_most _ _ low, c.high_status-else-from_mouse.ensures.1)

pub returns-then-from_mouse : goal.returns-then-from_mouse
returns-then-from_mouse c =
    let low = c.nibble-low.ensures.0 in (
      shown-mouse _ c.mouse_off.ensures c.keyboard_off.ensures low c.nibble.ensures.0
          c.weight.ensures.0 c.output_full.ensures c.if-not-output_full.false c.from_mouse.ensures c.if-from_mouse.true
          c.high_status-then-from_mouse.ensures.0 c.weight-then-from_mouse.ensures.0,
      omega (arith, low_most _ _ low, c.high_status-then-from_mouse.ensures.1),
    )

pub returns-else-from_mouse : goal.returns-else-from_mouse
returns-else-from_mouse c =
    let low = c.nibble-low.ensures.0 in (
      shown-keyboard _ c.mouse_off.ensures c.keyboard_off.ensures low c.nibble.ensures.0
          c.weight.ensures.0 c.output_full.ensures c.if-not-output_full.false c.from_mouse.ensures c.if-from_mouse.false
          c.high_status-else-from_mouse.ensures.0 c.weight-else-from_mouse.ensures.0,
      omega (arith, low_most _ _ low, c.high_status-else-from_mouse.ensures.1),
    )
