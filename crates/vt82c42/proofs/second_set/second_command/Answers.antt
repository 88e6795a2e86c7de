-- `vt82c42::second_set::second_command` meets its contract. With the second set the rule is carried out, and it keeps the body rules; with the first
-- nothing is stored. Assumes nothing.
use Rattle.machine.proofs.Laws.KeptSecondSet.{own_command_kept}
use Rattle.machine.proofs.Laws.SecondSet.{own_second}
use Rattle.state.proofs.Laws.Changed.{by_rule, kept-change}
use Rattle.vt82c42.proofs.second_set.second_command.Goals as goal

pub returns-then-second_set : goal.returns-then-second_set
returns-then-second_set c = kept-change (search (by_rule, own_second)) (λ k. own_command_kept k _)
