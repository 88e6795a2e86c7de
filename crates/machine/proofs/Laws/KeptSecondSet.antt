-- The second set's own commands keep the body rules, where they are understood.
-- Assumes nothing.
use Prim.Native.Nat.{ℕ, ◌%◌, ◌-◌, ◌<◌}
use mathlib.Core.Path.{◌≡◌, refl, sym, subst, ◌∙◌}
use mathlib.Core.Bool.{Bool, true, false, not, cond}
use native.Mathlib.Omega.{arith}
use lib.Dec.{eqb, leb, ltb}
use borrow.Author.Tests.{ltb-true}
use Rattle.translation.proofs.Tests.{split}
use Rattle.machine.specs.State.{Ports, Machine, lift, with_ports}
use Rattle.translation.specs.Bits.{within}
use Rattle.machine.specs.Lines.{at_mode, second_set}
use Rattle.machine.specs.SecondSet.{second_only, line_written, single_command, second_command}
use Rattle.machine.specs.Kept.{Kept}
use Rattle.machine.proofs.Laws.Cond.{cond-holds, cond_both, not_both}
use Rattle.machine.proofs.Laws.SecondSet.{second_none}
use Rattle.machine.proofs.Laws.Bounds.{weight_le, low_lines_below, input_line_below}
use Rattle.machine.proofs.Laws.KeptParts.{with_ports-kept}
use Rattle.machine.proofs.Laws.KeptLines.{KeptWith, put-kept}

module _ {m : Machine} (k : Kept m) where
  -- with the second set other latches of P1 and other values of P22 and P23 do
  module _ (second : second_set m.plain ≡ true) where
    ports-kept : (q : Ports) → q.pins ≡ m.plain.ports.pins → q.p25 ≡ m.plain.ports.p25 → q.input_latches < 64 →
        Kept (lift (λ p. with_ports p q) m)
    ports-kept q pins p25 low =
        with_ports-kept k q (rw pins k.pins, λ one. not_both second one, λ ps2. p25 ∙ k.p25 ps2, λ one. not_both second one, low)

    line_written-kept : (n : ℕ) (on : Bool) → n < 8 → Kept (lift (line_written n on) m)
    unfolding line_written
    line_written-kept n on h =
        let P = KeptWith m.secret in
        cond-holds P (ltb n 4) (λ e. ports-kept _ refl refl (input_line_below _ n on (omega (arith, ltb-true n 4 e)) k.input_latches)) λ _.
        cond_both P (eqb n 4) (ports-kept _ refl refl k.input_latches)
        (cond_both P (eqb n 5) (ports-kept _ refl refl k.input_latches)
        (ports-kept _ refl refl (input_line_below _ (n - 2) on (omega arith) k.input_latches)))

    own-kept : (c : ℕ) → Kept (lift (second_command c) m)
    unfolding second_command single_command
    own-kept c =
        let P = KeptWith m.secret in
        let low = k.input_latches in
        cond_both P (within 0x90 0x9F c) (ports-kept _ refl refl (low_lines_below m.plain.ports.input_latches c low))
        (cond_both P (within 0xB0 0xBF c) (line_written-kept (c % 8) (leb 0xB8 c) (omega arith))
        (cond_both P (within 0xE1 0xEF c) (ports-kept _ refl refl low)
        (cond_both P (eqb c 0xA1) (put-kept k _ k.version)
        (cond_both P (eqb c 0xAF) (put-kept k _ k.version)
        (cond_both P (eqb c 0xC8) (ports-kept _ refl refl low)
        (cond_both P (eqb c 0xC9) (ports-kept _ refl refl low)
        (cond_both P (eqb c 0xCA) (put-kept k _ (omega (arith, weight_le 1 (not (at_mode m.plain))))) k)))))))

  -- with the first set nothing is done
  pub own_command_kept : (c : ℕ) → Kept (lift (λ p. cond (second_set p) (second_command c p) p) m)
  own_command_kept c = cond-holds (KeptWith m.secret) (second_set m.plain) (λ second. own-kept second c) (λ _. k)

  pub second_command-kept : (c : ℕ) → (second_set m.plain ≡ false → second_only c ≡ false) → Kept (lift (second_command c) m)
  second_command-kept c known =
      split (second_set m.plain) (λ second. own-kept second c)
      (λ one. subst (KeptWith m.secret) (sym (second_none c m.plain (known one))) k)
