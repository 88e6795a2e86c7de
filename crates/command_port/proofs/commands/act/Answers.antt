-- `command_port::commands::act` meets its contract. Each arm is a case of the definition, which computes once the command is known.
-- Assumes nothing.
use Rattle.state.proofs.Laws.Changed.{by_rule}
use Rattle.command_port.proofs.Laws.{by_set}
use Rattle.machine.proofs.Laws.Commands.{acts_A4, acts_A5, acts_A6, acts-other}
use Rattle.command_port.proofs.commands.act.Goals as goal

pub returns-in-164 : goal.returns-in-164
returns-in-164 c = search (by_set, by_rule, acts_A4)

pub returns-in-165 : goal.returns-in-165
returns-in-165 c = search (by_set, by_rule, acts_A5)

pub returns-in-166 : goal.returns-in-166
returns-in-166 c = search (by_set, by_rule, acts_A6)

pub returns-in_default : goal.returns-in_default
returns-in_default c =
    let plain = c.plain_command.ensures in
    record { known = λ known. by_rule (plain.known known) (search acts-other); left = plain.left }
