-- `vt82c42::second_set::own_command` meets its contract. The tests pick the case of the definition.
-- Assumes nothing.
use Rattle.state.proofs.Laws.Changed.{by_rule}
use Rattle.machine.proofs.Laws.SecondSet.{second_9x, second-Bx, second-Ex, second-single}
use Rattle.vt82c42.proofs.second_set.own_command.Goals as goal

pub returns-then-within : goal.returns-then-within
returns-then-within c = search (by_rule, second_9x)

pub returns-then-within-2 : goal.returns-then-within-2
returns-then-within-2 c = search (by_rule, second-Bx)

pub returns-then-within-3 : goal.returns-then-within-3
returns-then-within-3 c = search (by_rule, second-Ex)

pub returns-else-within-3 : goal.returns-else-within-3
returns-else-within-3 c = search (by_rule, second-single)
