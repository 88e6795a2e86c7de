-- `data_port::writes::write_data` meets its contract. The pending code's test is the definition's, and the changes follow one another.
-- Assumes nothing.
use Rattle.state.proofs.Laws.Changed.{by_two, by_three}
use Rattle.machine.proofs.Laws.DataPort.{write_data-load, write_data-plain}
use Rattle.data_port.proofs.writes.write_data.Goals as goal

pub returns-then-pending-eq3 : goal.returns-then-pending-eq3
returns-then-pending-eq3 c = search (by_two, write_data-load)

pub returns-else-pending-eq3 : goal.returns-else-pending-eq3
returns-else-pending-eq3 c = search (by_three, write_data-plain)
