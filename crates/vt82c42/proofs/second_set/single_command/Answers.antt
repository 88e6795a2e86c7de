-- `vt82c42::second_set::single_command` meets its contract. Each arm is a case of the definition, which computes once the command is known.
-- Assumes nothing.
use mathlib.Core.Logic.{inl, inr}
use Rattle.state.proofs.Laws.Changed.{by_rule, untouched}
use Rattle.machine.proofs.Laws.SecondSet.{second_A1, second_AF, second_C8, second_C9, second_CA, second_other}
use native.Mathlib.Omega.{arith}
use Rattle.vt82c42.proofs.second_set.single_command.Goals as goal

pub returns-in-161 : goal.returns-in-161
returns-in-161 c = by_rule c.put_version.ensures (elim c.in-161.is [ inl e ↦ second_A1 _ _ e | inr e ↦ second_AF _ _ e ])

pub returns-in-200 : goal.returns-in-200
returns-in-200 c = search (by_rule, second_C8)

pub returns-in-201 : goal.returns-in-201
returns-in-201 c = search (by_rule, second_C9)

pub returns-in-202 : goal.returns-in-202
returns-in-202 c = search (by_rule, second_CA)

pub returns-in_default : goal.returns-in_default
returns-in_default c = untouched (second_other _ _ (λ e. grind (arith, e)) (λ e. grind (arith, e)) (λ e. omega arith) (λ e. omega arith) (λ e. omega arith))
