-- `lines::lines::input_port` meets its contract. The set's test picks the case of the definition.
-- Assumes nothing.
use Rattle.machine.proofs.Laws.Lines.{input_port-second, input_port-first}
use Rattle.lines.proofs.lines.input_port.Goals as goal

pub returns-then-second_set : goal.returns-then-second_set
returns-then-second_set c = input_port-second _ c.second_set.ensures c.if-second_set.true

pub returns-else-second_set : goal.returns-else-second_set
returns-else-second_set c = input_port-first _ c.second_set.ensures c.if-second_set.false
