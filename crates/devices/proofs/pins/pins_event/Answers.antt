-- `devices::pins::pins_event` meets its contract. A refused event changes nothing; an accepted one's value is its low byte.
-- Assumes nothing.
use Rattle.state.proofs.Laws.Told.{told_refused, told_pins}
use Rattle.devices.proofs.pins.pins_event.Goals as goal

pub returns-in_err-check_pins : goal.returns-in_err-check_pins
returns-in_err-check_pins c = told_refused _ c.from_residual.result c.from_residual.ensures.1 (c.in_err-check_pins.ensures _)

pub returns : goal.returns
returns c = told_pins c.default.result (c.in_ok-check_pins.ensures _) c.default.ensures c.set_pins.ensures
