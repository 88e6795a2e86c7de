-- `devices::sending::taken_event` meets its contract. A refused event changes nothing; an accepted one does what the callee does.
-- Assumes nothing.
use mathlib.Core.Path.{refl}
use Rattle.machine.specs.Events.{accept}
use Rattle.state.proofs.Laws.Changed.{by_rule}
use Rattle.state.proofs.Laws.Told.{told_refused, told_quiet}
use Rattle.devices.proofs.sending.taken_event.Goals as goal

pub returns-in_err-check_end : goal.returns-in_err-check_end
returns-in_err-check_end c = told_refused _ c.from_residual.result c.from_residual.ensures.1 c.in_err-check_end.ensures.0

pub returns : goal.returns
unfolding accept
returns c = told_quiet c.default.result c.in_ok-check_end.ensures.0 c.default.ensures (refl, refl, refl) (by_rule c.taken.ensures refl)
