-- `command_port::commands::plain_command` meets its contract. Each arm is a case of the definition, which computes once the command is known.
-- Assumes nothing.
use mathlib.Core.Logic.{inl, inr}
use mathlib.Core.Path.{◌≡◌, refl, sym}
use native.Mathlib.Omega.{arith}
use Rattle.machine.proofs.Laws.Commands.{command_A7, command_A8, command_A9, command_AA, command_AB, command_AD, command_AE}
use Rattle.machine.proofs.Laws.Commands.{command_C0, command_C1, command_C2, command_D0, command_E0, command-cell, command-low, command-high}
use Rattle.machine.proofs.Laws.SecondSet.{second_none_are, own_first}
use Rattle.state.proofs.Laws.Changed.{by_rule}
use Rattle.command_port.proofs.Laws.{by_set}
use Rattle.command_port.proofs.commands.plain_command.Goals as goal
use Rattle.command_port.proofs.commands.plain_command.Goals.{in_default-via-then-c-lt32, in_default-via-else-c-lt32+else-c-lt64}

pub returns-in-167 : goal.returns-in-167
returns-in-167 c = search (by_set, by_rule, command_A7)

pub returns-in-168 : goal.returns-in-168
returns-in-168 c = search (by_set, by_rule, command_A8)

pub returns-in-169 : goal.returns-in-169
returns-in-169 c = elim c.in-169.is [ inl e ↦ by_set (by_rule c.put.ensures.change (command_A9 _ _ e)) e refl | inr e ↦ by_set (by_rule c.put.ensures.change (command_AB _ _ e)) e refl ]

pub returns-in-170 : goal.returns-in-170
returns-in-170 c = search (by_set, by_rule, command_AA)

pub returns-in-173 : goal.returns-in-173
returns-in-173 c = search (by_set, by_rule, command_AD)

pub returns-in-174 : goal.returns-in-174
returns-in-174 c = search (by_set, by_rule, command_AE)

pub returns-in-192 : goal.returns-in-192
returns-in-192 c = search (by_set, by_rule, command_C0)

pub returns-in-193 : goal.returns-in-193
returns-in-193 c = by_set (by_rule c.show_lines.ensures (rw c.input_port-port.ensures (command_C1 _ _ c.in-193.is))) c.in-193.is refl

pub returns-in-194 : goal.returns-in-194
returns-in-194 c =
    by_set (by_rule c.show_lines-in-194.ensures (rw c.input_port-port-in-194.ensures (command_C2 _ _ c.in-194.is))) c.in-194.is refl

pub returns-in-208 : goal.returns-in-208
returns-in-208 c = search (by_set, by_rule, command_D0)

pub returns-in-224 : goal.returns-in-224
returns-in-224 c = search (by_set, by_rule, command_E0)

pub returns-in-32-to-63 : goal.returns-in-32-to-63
returns-in-32-to-63 c =
    by_set (by_rule c.put_named_cell.ensures (command-cell _ _ (omega arith) (omega arith))) refl
    (sym (second_none_are 0x20 0x20 refl c.args.c (omega arith) (omega arith)))

pub returns-in_default : goal.returns-in_default
returns-in_default c =
    let change = c.second_command.ensures.change in
    let no_A9 : c.args.c ≡ 0xA9 → ⊥ = λ e. grind (arith, e) in
    let no_AB : c.args.c ≡ 0xAB → ⊥ = λ e. grind (arith, e) in
    elim c.in_default.branch [
      | in_default-via-then-c-lt32 w ↦ record {
        known = λ known. by_rule change (search (command-low, known, no_A9, no_AB));
        left = λ one _. by_rule change (sym (own_first _ _ refl one));
      }
      | in_default-via-else-c-lt32+else-c-lt64 w ↦ record {
        known = λ known. by_rule change (search (command-high, known, no_A9, no_AB));
        left = λ one _. by_rule change (sym (own_first _ _ refl one));
      }
    ]
