-- Laws of the definitions in specs/Commands. Assumes nothing.
use mathlib.Core.Path.{◌≡◌, refl, ap, sym, ◌∙◌}
use mathlib.Core.Bool as bool
use mathlib.Core.Bool.{Bool, true, false, cond, not, ◌&&◌, ◌||◌, false≢true}
use Prim.Native.Nat.{ℕ, ◌-◌, ◌%◌, ◌≤◌, ◌<◌}
use native.Mathlib.Omega.{arith}
use lib.Dec.{eqb, leb}
use borrow.Author.Tests.{leb-true, le-leb, lt-leb, eq-eqb, ne_eqb, not-true}
use Rattle.translation.specs.Bits.{has, within, clear_bit, nibble}
use Rattle.translation.proofs.Tests.{split, and_true}
use Rattle.machine.specs.Settings.{Settings}
use Rattle.machine.specs.State.{Public, Machine, with_host, after_command, lift}
use Rattle.machine.specs.Lines.{at_mode, second_set, put, put_cell, keyboard_off, mouse_off}
use Rattle.machine.specs.Lines.{keyboard_disabled, keyboard_enabled, mouse_disabled, mouse_enabled}
use Rattle.machine.specs.DataPort.{dropped}
use Rattle.machine.specs.SecondSet.{second_only, single_command, second_command}
use Rattle.machine.specs.Commands.{ps2_only, first_only, not_in_set, left_out, understood, polled, pending_of, cell_named, load_cut}
use Rattle.machine.specs.Commands.{self_tested, test_inputs, test_inputs_put}
use Rattle.machine.specs.Commands.{low_lines_shown, high_lines_shown, input_port_put, output_port_put, named_cell_put}
use Rattle.machine.specs.Commands.{plain_command, acts, has_code, code_asked, lock_set, lock_command, write_command, pulse_of}
use Rattle.machine.proofs.Laws.Cond.{cond_both, and_false, or_false}
use Rattle.machine.proofs.Laws.SecondSet.{second_none}

-- ---- within
and_left : (a b : Bool) → (a && b) ≡ true → a ≡ true
and_left true b h = refl
and_left false b h = h

and_right : (a b : Bool) → (a && b) ≡ true → b ≡ true
and_right true b h = h
and_right false b h = absurd (false≢true h)

pub within_low : (low high c : ℕ) → within low high c ≡ true → low ≤ c
within_low low high c h = leb-true low c (and_left (leb low c) (leb c high) h)

pub within-high : (low high c : ℕ) → within low high c ≡ true → c ≤ high
within-high low high c h = leb-true c high (and_right (leb low c) (leb c high) h)

-- the cells that 20h-3Fh and 61h-7Fh name: the low five bits
pub cell_of_20 : (c : ℕ) → within 0x20 0x3F c ≡ true → c % 32 ≡ c - 0x20
cell_of_20 c h = omega (arith, within_low 0x20 0x3F c h, within-high 0x20 0x3F c h)

pub cell_of_61 : (c : ℕ) → within 0x61 0x7F c ≡ true → c % 32 ≡ c - 0x60
cell_of_61 c h = omega (arith, within_low 0x61 0x7F c h, within-high 0x61 0x7F c h)

-- ---- left_out, understood
-- a command that mode and set do not leave out
pub record Known (x : Settings) (c : ℕ) : Type 0 where
  pub mode : x.at_mode ≡ true → ps2_only c ≡ false
  pub first : x.second_set ≡ true → first_only c ≡ false
  pub second : x.second_set ≡ false → second_only c ≡ false

pub known : (x : Settings) (c : ℕ) → left_out x c ≡ false → Known x c
known x c h =
    let (mode, set) = or_false (x.at_mode && ps2_only c) _ h in
    record { mode = and_false _ _ mode; first = λ t. simp t at set; second = λ t. simp t at set }

-- what is understood is not left out, whatever was written
pub understood-known : (x : Settings) (c : ℕ) → Known x (understood x c)
understood-known x c =
    known x (understood x c)
    (split (left_out x c) (λ h. ap (λ (t : Bool). left_out x (cond t 0 c)) h ∙ none) (λ h. ap (λ (t : Bool). left_out x (cond t 0 c)) h ∙ h))
  where
    none : left_out x 0 ≡ false
    none = split x.second_set (λ t. simp (t, bool.and-false)) (λ t. simp (t, bool.and-false))

module _ (x : Settings) (c : ℕ) {hidden : Bool} (is_hidden : hidden ≡ (x.at_mode && ps2_only c)) where
  pub understood_hidden : hidden ≡ true → 0 ≡ understood x c
  understood_hidden h = simp (sym is_hidden ∙ h)

  module _ {other : Bool} (is_other : other ≡ not_in_set x c) (shown : hidden ≡ false) where
    abbrev same : other ≡ left_out x c
    same = λ i. (sym shown ∙ is_hidden) i || is_other i

    pub understood-none : other ≡ true → 0 ≡ understood x c
    understood-none h = ap (λ (t : Bool). cond t 0 c) (sym h ∙ same)

    pub understood-same : other ≡ false → c ≡ understood x c
    understood-same h = ap (λ (t : Bool). cond t 0 c) (sym h ∙ same)

-- in PS/2 mode with the first set only the second set's own are left out
module _ (x : Settings) (c : ℕ) {ordinary only : Bool} (is_ordinary : ordinary ≡ (not x.at_mode && not x.second_set)) (stands : ordinary ≡ true)
    (is_only : only ≡ second_only c) where
  only_left_out : only ≡ left_out x c
  only_left_out =
      let (ps2, first) = and_true (not x.at_mode) (not x.second_set) (sym is_ordinary ∙ stands) in
      is_only ∙ sym (simp (not-true x.at_mode ps2, not-true x.second_set first))

  pub understood_second : only ≡ true → 0 ≡ understood x c
  understood_second h = ap (λ (t : Bool). cond t 0 c) (sym h ∙ only_left_out)

  pub understood-first : only ≡ false → c ≡ understood x c
  understood-first h = ap (λ (t : Bool). cond t 0 c) (sym h ∙ only_left_out)

-- ---- polled
module _ (n : ℕ) (p : Public) {second : Bool} (is_second : second ≡ second_set p) where
  pub polled_second : second ≡ true → n - n % 2 ≡ polled n p
  polled_second h = even ∙ simp (sym is_second ∙ h)
    where
      even : n - n % 2 ≡ clear_bit n 0
      even = omega arith

  pub polled-first : second ≡ false → n ≡ polled n p
  polled-first h = simp (sym is_second ∙ h)

-- ---- load_cut
pub load_cut-load : (m : Machine) → m.plain.host.pending ≡ 3 → dropped m ≡ load_cut m
unfolding load_cut
load_cut-load m h = simp (eq-eqb _ _ h)

pub load_cut-none : (m : Machine) → (m.plain.host.pending ≡ 3 → ⊥) → m ≡ load_cut m
unfolding load_cut
load_cut-none m h = simp (ne_eqb _ _ h)

-- ---- plain_command
module _ (m : Machine) (c : ℕ) where
  pub command_A7 : c ≡ 0xA7 → lift mouse_disabled m ≡ lift (plain_command c) m
  unfolding plain_command
  command_A7 key = simp key

  pub command_A8 : c ≡ 0xA8 → lift mouse_enabled m ≡ lift (plain_command c) m
  unfolding plain_command
  command_A8 key = simp key

  pub command_A9 : c ≡ 0xA9 → lift (put 0) m ≡ lift (plain_command c) m
  unfolding plain_command
  command_A9 key = simp key

  pub command_AA : c ≡ 0xAA → lift self_tested m ≡ lift (plain_command c) m
  unfolding plain_command
  command_AA key = simp key

  pub command_AB : c ≡ 0xAB → lift (put 0) m ≡ lift (plain_command c) m
  unfolding plain_command
  command_AB key = simp key

  pub command_AD : c ≡ 0xAD → lift keyboard_disabled m ≡ lift (plain_command c) m
  unfolding plain_command
  command_AD key = simp key

  pub command_AE : c ≡ 0xAE → lift keyboard_enabled m ≡ lift (plain_command c) m
  unfolding plain_command
  command_AE key = simp key

  pub command_C0 : c ≡ 0xC0 → lift input_port_put m ≡ lift (plain_command c) m
  unfolding plain_command
  command_C0 key = simp key

  pub command_C1 : c ≡ 0xC1 → lift low_lines_shown m ≡ lift (plain_command c) m
  unfolding plain_command
  command_C1 key = simp key

  pub command_C2 : c ≡ 0xC2 → lift high_lines_shown m ≡ lift (plain_command c) m
  unfolding plain_command
  command_C2 key = simp key

  pub command_D0 : c ≡ 0xD0 → lift output_port_put m ≡ lift (plain_command c) m
  unfolding plain_command
  command_D0 key = simp key

  pub command_E0 : c ≡ 0xE0 → lift test_inputs_put m ≡ lift (plain_command c) m
  unfolding plain_command
  command_E0 key = simp key

  pub command-cell : 0x20 ≤ c → c ≤ 0x3F → lift (named_cell_put (c % 32)) m ≡ lift (plain_command c) m
  unfolding plain_command
  command-cell low high =
      let named : within 0x20 0x3F c ≡ true = simp (le-leb 0x20 c low, le-leb c 0x3F high) in
      simp (named, cell_of_20 c named)

-- any other is the second set's
module _
    (m : Machine)
    (c : ℕ)
    (n_a7 : c ≡ 0xA7 → ⊥)
    (n_a8 : c ≡ 0xA8 → ⊥)
    (n_a9 : c ≡ 0xA9 → ⊥)
    (n_aA : c ≡ 0xAA → ⊥)
    (n_aB : c ≡ 0xAB → ⊥)
    (n_aD : c ≡ 0xAD → ⊥)
    (n_aE : c ≡ 0xAE → ⊥)
    (n_c0 : c ≡ 0xC0 → ⊥)
    (n_c1 : c ≡ 0xC1 → ⊥)
    (n_c2 : c ≡ 0xC2 → ⊥)
    (n_d0 : c ≡ 0xD0 → ⊥)
    (n_e0 : c ≡ 0xE0 → ⊥)
  where
    command-other : within 0x20 0x3F c ≡ false → lift (second_command c) m ≡ lift (plain_command c) m
    unfolding plain_command
    command-other apart =
        simp (
          apart,
          ne_eqb _ _ n_a7,
          ne_eqb _ _ n_a8,
          ne_eqb _ _ n_a9,
          ne_eqb _ _ n_aA,
          ne_eqb _ _ n_aB,
          ne_eqb _ _ n_aD,
          ne_eqb _ _ n_aE,
          ne_eqb _ _ n_c0,
          ne_eqb _ _ n_c1,
          ne_eqb _ _ n_c2,
          ne_eqb _ _ n_d0,
          ne_eqb _ _ n_e0,
        )

    -- with the second set, and with the first where it is none of the second's own
    module _ (known : second_set m.plain ≡ false → second_only c ≡ false) where
      own : lift (λ p. cond (second_set p) (second_command c p) p) m ≡ lift (second_command c) m
      own = ap (λ (p : Public). lift (λ _. p) m) (split (second_set m.plain) (λ two. simp two) (λ one. simp one (sym (second_none c m.plain (known one)))))

      pub command-low : c < 0x20 → lift (λ p. cond (second_set p) (second_command c p) p) m ≡ lift (plain_command c) m
      command-low h = own ∙ command-other (simp (lt-leb 0x20 c h))

      pub command-high : 0x20 ≤ c → 0x3F < c → lift (λ p. cond (second_set p) (second_command c p) p) m ≡ lift (plain_command c) m
      command-high low h = own ∙ command-other (simp (le-leb 0x20 c low, lt-leb c 0x3F h))

-- ---- acts
module _ (m : Machine) (c : ℕ) where
  pub acts_A4 : c ≡ 0xA4 → code_asked m ≡ acts c m
  unfolding acts
  acts_A4 key = simp key

  pub acts_A5 : c ≡ 0xA5 → dropped m ≡ acts c m
  unfolding acts
  acts_A5 key = simp key

  pub acts_A6 : c ≡ 0xA6 → lock_command m ≡ acts c m
  unfolding acts
  acts_A6 key = simp key

  pub acts-other : (c ≡ 0xA4 → ⊥) → (c ≡ 0xA5 → ⊥) → (c ≡ 0xA6 → ⊥) → lift (plain_command c) m ≡ acts c m
  unfolding acts
  acts-other n_a4 n_a5 n_a6 = simp (ne_eqb _ _ n_a4, ne_eqb _ _ n_a5, ne_eqb _ _ n_a6)

pub acts-none : (m : Machine) → acts 0 m ≡ m
unfolding acts plain_command second_command single_command
acts-none m = refl

-- ---- write_command
pub write_command-known : (m : Machine) (c : ℕ) {known code cell : ℕ} → known ≡ understood m.plain.settings c →
    code ≡ pending_of (understood m.plain.settings c) →
    cell ≡ cell_named (understood m.plain.settings c) →
    acts known (lift (λ p. with_host p (after_command code cell)) (load_cut m)) ≡ write_command c m
unfolding write_command
write_command-known m c is_known is_code is_cell = simp (is_known, is_code, is_cell)

-- a load that is cut short leaves the settings
pub load_cut-settings : (m : Machine) → (load_cut m).plain.settings ≡ m.plain.settings
unfolding load_cut
load_cut-settings m = cond_both (λ (x : Machine). x.plain.settings ≡ m.plain.settings) (eqb m.plain.host.pending 3) refl refl

-- ---- test_inputs, pulse_of
module _ (p : Public) {r : ℕ} {at' off : Bool} (is_at : at' ≡ at_mode p) (is_off : off ≡ keyboard_off p) where
  pub test_inputs-at : at' ≡ true → r ≡ nibble true (not off) false false → r ≡ test_inputs p
  unfolding test_inputs
  test_inputs-at h made = made ∙ simp (sym is_at ∙ h, is_off)

  pub test_inputs-ps2 : {mouse : Bool} → at' ≡ false → mouse ≡ mouse_off p → r ≡ nibble (not off) (not mouse) false false → r ≡ test_inputs p
  unfolding test_inputs
  test_inputs-ps2 h is_mouse made = made ∙ simp (sym is_at ∙ h, is_off, is_mouse)

module _ (x : Settings) (c : ℕ) where
  pub pulse_of_some : {r : ℕ} {all : Bool} → 0xF0 ≤ c → all ≡ x.at_mode →
      r ≡ nibble (not (has c 0)) (not (has c 1)) (all && not (has c 2)) (all && not (has c 3)) →
      r ≡ pulse_of x c
  unfolding pulse_of
  pulse_of_some h is_all made = made ∙ simp (le-leb 0xF0 c h, is_all)

  pub pulse_of-none : c < 0xF0 → 0 ≡ pulse_of x c
  unfolding pulse_of
  pulse_of-none h = simp (lt-leb 0xF0 c h)

-- ---- code_asked, lock_command
module _ (m : Machine) {has : Bool} (is_has : has ≡ has_code m) where
  module _ {second : Bool} (is_second : second ≡ second_set m.plain) where
    pub code_asked-some : (has && not second) ≡ true → lift (put 0xFA) m ≡ code_asked m
    unfolding code_asked
    code_asked-some h = simp (simp (is_has, is_second) at h)

    pub code_asked-none : (has && not second) ≡ false → lift (put 0xF1) m ≡ code_asked m
    unfolding code_asked
    code_asked-none h = simp (simp (is_has, is_second) at h)

  pub lock_command_some : has ≡ true → lift (put_cell 0x13) (lock_set m) ≡ lock_command m
  unfolding lock_command
  lock_command_some h = simp (sym is_has ∙ h)

  pub lock_command-none : has ≡ false → m ≡ lock_command m
  unfolding lock_command
  lock_command-none h = simp (sym is_has ∙ h)
