-- `data_port::writes::data_event` meets its contract. A refused write tells its refusal; an accepted one does what the pending code says.
-- Assumes nothing.
use Rattle.state.proofs.Laws.Told.{told_refused, told_data}
use Rattle.data_port.proofs.writes.data_event.Goals as goal

pub returns-in_err-check_write : goal.returns-in_err-check_write
returns-in_err-check_write c = told_refused _ c.from_residual.result c.from_residual.ensures.1 c.in_err-check_write.ensures.0

pub returns : goal.returns
returns c = told_data c.default.result c.in_ok-check_write.ensures.0 c.default.ensures c.write_data.ensures
