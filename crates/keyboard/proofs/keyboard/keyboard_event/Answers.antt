-- `keyboard::keyboard::keyboard_event` meets its contract. A refused frame changes nothing; an accepted one does what its verdict says.
-- Assumes nothing.
use mathlib.Core.Path.{refl}
use Rattle.machine.specs.Events.{accept}
use Rattle.state.proofs.Laws.Changed.{by_rule}
use Rattle.state.proofs.Laws.Told.{told_refused, told_quiet}
use Rattle.keyboard.proofs.keyboard.keyboard_event.Goals as goal

pub returns-in_err-check_keyboard : goal.returns-in_err-check_keyboard
returns-in_err-check_keyboard c = told_refused _ c.from_residual.result c.from_residual.ensures.1 c.in_err-check_keyboard.ensures

pub returns : goal.returns
unfolding accept
returns c =
    told_quiet c.default.result c.in_ok-check_keyboard.ensures c.default.ensures (refl, refl, refl)
    (by_rule c.keyboard_frame.ensures (rw (c.judge.ensures, c.word.ensures) refl))
