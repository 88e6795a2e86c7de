-- `vt82c42::second_set::write_line` meets its contract. Each arm is a case of the definition, by the low three bits.
-- Assumes nothing.
use Rattle.state.proofs.Laws.Changed.{by_rule}
use Rattle.machine.proofs.Laws.SecondSet.{line_0, line_1, line_2, line_3, line_4, line_5, line_6, line_7, low_three}
use Rattle.vt82c42.proofs.second_set.write_line.Goals as goal

pub returns-in-0 : goal.returns-in-0
returns-in-0 c = search (by_rule, line_0)

pub returns-in-1 : goal.returns-in-1
returns-in-1 c = search (by_rule, line_1)

pub returns-in-2 : goal.returns-in-2
returns-in-2 c = search (by_rule, line_2)

pub returns-in-3 : goal.returns-in-3
returns-in-3 c = search (by_rule, line_3)

pub returns-in-4 : goal.returns-in-4
returns-in-4 c = search (by_rule, line_4)

pub returns-in-5 : goal.returns-in-5
returns-in-5 c = search (by_rule, line_5)

pub returns-in-6 : goal.returns-in-6
returns-in-6 c = search (by_rule, line_6)

pub returns-in_default : goal.returns-in_default
returns-in_default c = by_rule c.latch_input-in_default.ensures (search (line_7, low_three))
