-- `data_port::writes::plain_data` meets its contract. Each arm is a case of the definition, which computes once the pending code is known.
-- Assumes nothing.
use Rattle.state.proofs.Laws.Changed.{by_rule}
use Rattle.machine.proofs.Laws.DataPort.{data_1, data_2, data_4, data_5, data_6, data_7, data_other}
use Rattle.data_port.proofs.writes.plain_data.Goals as goal

pub returns-in-1 : goal.returns-in-1
returns-in-1 c = search (by_rule, data_1)

pub returns-in-2 : goal.returns-in-2
returns-in-2 c = search (by_rule, data_2)

pub returns-in-4 : goal.returns-in-4
returns-in-4 c = search (by_rule, data_4)

pub returns-in-5 : goal.returns-in-5
returns-in-5 c = search (by_rule, data_5)

pub returns-in-6 : goal.returns-in-6
returns-in-6 c = search (by_rule, data_6)

pub returns-in-7 : goal.returns-in-7
returns-in-7 c = search (by_rule, data_7)

pub returns-in_default : goal.returns-in_default
returns-in_default c = search (by_rule, data_other)
