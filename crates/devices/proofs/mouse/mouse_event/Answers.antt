-- `devices::mouse::mouse_event` meets its contract. A refused frame changes nothing; an accepted one does what its verdict says.
-- Assumes nothing.
use mathlib.Core.Path.{refl}
use Rattle.machine.specs.Events.{accept}
use Rattle.state.proofs.Laws.Changed.{by_rule}
use Rattle.state.proofs.Laws.Told.{told_refused, told_quiet}
use Rattle.devices.proofs.mouse.mouse_event.Goals as goal

pub returns-in_err-check_mouse : goal.returns-in_err-check_mouse
returns-in_err-check_mouse c = told_refused _ c.from_residual.result c.from_residual.ensures.1 c.in_err-check_mouse.ensures

pub returns : goal.returns
unfolding accept
returns c =
    told_quiet c.default.result c.in_ok-check_mouse.ensures c.default.ensures (refl, refl, refl)
    (by_rule c.mouse_frame.ensures (rw (c.judge.ensures, c.word.ensures) refl))
