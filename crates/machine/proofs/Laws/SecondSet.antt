-- Laws of the definitions in specs/SecondSet. Assumes nothing.
use mathlib.Core.Path.{◌≡◌, refl, ap, sym, subst, ◌∙◌}
use mathlib.Core.Bool.{Bool, true, false, cond, not}
use Prim.Native.Nat.{ℕ, ◌+◌, ◌-◌, ◌%◌, ◌≤◌, ◌<◌}
use native.Mathlib.Omega.{arith}
use lib.Dec.{eqb, leb}
use borrow.Author.Tests.{ne_eqb, not-true}
use Rattle.machine.specs.State.{Public, Machine, lift}
use Rattle.translation.specs.Bits.{within}
use Rattle.machine.specs.Lines.{second_set}
use Rattle.machine.specs.DataPort.{high_latched}
use Rattle.machine.specs.SecondSet.{input_line_written, low_lines_written, line_written, permitted, output_lines_set}
use Rattle.machine.specs.SecondSet.{second_only, mode_reported, version_put, single_command, second_command}
use Rattle.translation.proofs.Tests.{every, every_below}
use Rattle.machine.proofs.Laws.Cond.{not_both, or_false}

-- ---- second_only: a test computed at each of n commands from one on holds of every command among them
from_on : (f : ℕ → Bool) (first n : ℕ) → every (λ k. f (first + k)) n ≡ true → (c : ℕ) → first ≤ c → c < first + n → f c ≡ true
from_on f first n passed c low high =
    let at : first + (c - first) ≡ c = omega arith in
    subst (λ (k : ℕ). f k ≡ true) at (every_below (λ k. f (first + k)) n passed (c - first) (omega arith))

pub second_are : (first n : ℕ) → every (λ k. second_only (first + k)) n ≡ true → (c : ℕ) → first ≤ c → c < first + n → true ≡ second_only c
second_are first n passed c low high = sym (from_on second_only first n passed c low high)

pub second_none_are : (first n : ℕ) → every (λ k. not (second_only (first + k))) n ≡ true → (c : ℕ) → first ≤ c → c < first + n → false ≡ second_only c
second_none_are first n passed c low high = sym (not-true _ (from_on (λ k. not (second_only k)) first n passed c low high))

-- ---- second_command, by the tests in its order
module _ (m : Machine) (c : ℕ) {nine : Bool} (is_nine : nine ≡ within 0x90 0x9F c) where
  pub second_9x : nine ≡ true → lift (low_lines_written c) m ≡ lift (second_command c) m
  unfolding second_command
  second_9x h = simp (sym is_nine ∙ h)

  module _ (no9 : nine ≡ false) {b : Bool} (is_b : b ≡ within 0xB0 0xBF c) where
    pub second-Bx : b ≡ true → lift (line_written (c % 8) (leb 0xB8 c)) m ≡ lift (second_command c) m
    unfolding second_command
    second-Bx h = simp (sym is_nine ∙ no9, sym is_b ∙ h)

    module _ (no_b : b ≡ false) {e : Bool} (is_e : e ≡ within 0xE1 0xEF c) where
      pub second-Ex : e ≡ true → lift (output_lines_set c) m ≡ lift (second_command c) m
      unfolding second_command
      second-Ex h = simp (sym is_nine ∙ no9, sym is_b ∙ no_b, sym is_e ∙ h)

      pub second-single : e ≡ false → lift (single_command c) m ≡ lift (second_command c) m
      unfolding second_command
      second-single h = simp (sym is_nine ∙ no9, sym is_b ∙ no_b, sym is_e ∙ h)

-- ---- single_command
module _ (m : Machine) (c : ℕ) where
  pub second_A1 : c ≡ 0xA1 → lift version_put m ≡ lift (single_command c) m
  unfolding single_command
  second_A1 key = simp key

  pub second_AF : c ≡ 0xAF → lift version_put m ≡ lift (single_command c) m
  unfolding single_command
  second_AF key = simp key

  pub second_C8 : c ≡ 0xC8 → lift (permitted true) m ≡ lift (single_command c) m
  unfolding single_command
  second_C8 key = simp key

  pub second_C9 : c ≡ 0xC9 → lift (permitted false) m ≡ lift (single_command c) m
  unfolding single_command
  second_C9 key = simp key

  pub second_CA : c ≡ 0xCA → lift mode_reported m ≡ lift (single_command c) m
  unfolding single_command
  second_CA key = simp key

  pub second_other : (c ≡ 0xA1 → ⊥) → (c ≡ 0xAF → ⊥) → (c ≡ 0xC8 → ⊥) → (c ≡ 0xC9 → ⊥) → (c ≡ 0xCA → ⊥) → m ≡ lift (single_command c) m
  unfolding single_command
  second_other n_a1 n_aF n_c8 n_c9 n_cA = simp (ne_eqb _ _ n_a1, ne_eqb _ _ n_aF, ne_eqb _ _ n_c8, ne_eqb _ _ n_c9, ne_eqb _ _ n_cA)

-- a command that is none of the set's own does nothing
pub second_none : (c : ℕ) (p : Public) → second_only c ≡ false → second_command c p ≡ p
unfolding second_command single_command
second_none c p none =
    let (no9, r) = or_false (within 0x90 0x9F c) _ none in
    let (no_b, r) = or_false (within 0xB0 0xBF c) _ r in
    let (no_e, r) = or_false (within 0xE1 0xEF c) _ r in
    let other : (n : ℕ) → second_only n ≡ true → eqb c n ≡ false =
    λ n own. ne_eqb c n (λ e. not_both (ap second_only e ∙ own) none) in
    simp (no9, no_b, no_e, other 0xA1 refl, other 0xAF refl, other 0xC8 refl, other 0xC9 refl, other 0xCA refl)

-- ---- line_written
pub low_three : (c : ℕ) → c % 8 < 8
low_three c = omega arith

past : (k : ℕ) → (k ≡ 0 → ⊥) → (k ≡ 1 → ⊥) → (k ≡ 2 → ⊥) → (k ≡ 3 → ⊥) → 4 ≤ k
past k n0 n1 n2 n3 = omega arith

last : (k : ℕ) → 4 ≤ k → k < 8 → (k ≡ 4 → ⊥) → (k ≡ 5 → ⊥) → (k ≡ 6 → ⊥) → k ≡ 7
last k low high n4 n5 n6 = omega arith

module _ (m : Machine) (on : Bool) {k : ℕ} where
  pub line_0 : k ≡ 0 → lift (input_line_written 1 on) m ≡ lift (line_written k on) m
  unfolding line_written
  line_0 key = simp key

  pub line_1 : k ≡ 1 → lift (input_line_written 2 on) m ≡ lift (line_written k on) m
  unfolding line_written
  line_1 key = simp key

  pub line_2 : k ≡ 2 → lift (input_line_written 4 on) m ≡ lift (line_written k on) m
  unfolding line_written
  line_2 key = simp key

  pub line_3 : k ≡ 3 → lift (input_line_written 8 on) m ≡ lift (line_written k on) m
  unfolding line_written
  line_3 key = simp key

  pub line_4 : k ≡ 4 → lift (λ p. high_latched on p.ports.p23 p.ports.p25 p) m ≡ lift (line_written k on) m
  unfolding line_written
  line_4 key = simp key

  pub line_5 : k ≡ 5 → lift (λ p. high_latched p.ports.p22 on p.ports.p25 p) m ≡ lift (line_written k on) m
  unfolding line_written
  line_5 key = simp key

  pub line_6 : k ≡ 6 → lift (input_line_written 16 on) m ≡ lift (line_written k on) m
  unfolding line_written
  line_6 key = simp key

  pub line_7 : k < 8 → (k ≡ 0 → ⊥) → (k ≡ 1 → ⊥) → (k ≡ 2 → ⊥) → (k ≡ 3 → ⊥) → (k ≡ 4 → ⊥) → (k ≡ 5 → ⊥) → (k ≡ 6 → ⊥) →
      lift (input_line_written 32 on) m ≡ lift (line_written k on) m
  unfolding line_written
  line_7 h n0 n1 n2 n3 n4 n5 n6 =
      let seven : k ≡ 7 = last k (past k n0 n1 n2 n3) h n4 n5 n6 in
      simp seven

-- what is done with the second set alone
module _ (m : Machine) (c : ℕ) {second : Bool} (is_second : second ≡ second_set m.plain) where
  pub own_second : second ≡ true → lift (second_command c) m ≡ lift (λ p. cond (second_set p) (second_command c p) p) m
  own_second h = simp (sym is_second ∙ h)

  pub own_first : second ≡ false → m ≡ lift (λ p. cond (second_set p) (second_command c p) p) m
  own_first h = simp (sym is_second ∙ h)
