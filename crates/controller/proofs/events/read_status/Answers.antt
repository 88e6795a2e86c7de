-- `controller::events::read_status` meets its contract. A refused read tells its number; an accepted one the status.
-- Assumes nothing.
use Rattle.controller.proofs.Laws.Events.{told_status, refused_status}
use Rattle.controller.proofs.events.read_status.Goals as goal

pub returns-in_err-check_read : goal.returns-in_err-check_read
returns-in_err-check_read c = λ s. refused_status 2 _ c.from_residual.result c.from_residual.ensures.1 (c.in_err-check_read.ensures _).1

pub returns : goal.returns
returns c = λ s. told_status c.default.result (c.in_ok-check_read.ensures _).1 c.default.ensures
