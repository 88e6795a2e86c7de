-- The flags of a byte after some of its bits are replaced: a test that is computed at each of the 256 bytes. Assumes nothing.
use Prim.Native.Nat.{ℕ, ◌+◌, ◌*◌, ◌/◌, ◌%◌, ◌<◌}
use mathlib.Core.Path.{◌≡◌, refl}
use mathlib.Core.Bool.{Bool, true, false, not, ◌&&◌, false≢true}
use lib.Dec.{eqb}
use borrow.Author.Tests.{eqb-true}
use Rattle.translation.proofs.Tests.{and_true, every, every_below}
use Rattle.translation.specs.Bits.{has, weight}
use Rattle.machine.specs.State.{Public}
use Rattle.machine.proofs.Laws.Bits.{lines_0, lines_1, lines_2, lines_3, lines_4, lines_5, lines_6, lines_below}
use Rattle.state.specs.View.{flags}
use Rattle.state.specs.Flags.{Flags, flags_of, with_output, with_command, with_errors, with_breaks, with_locked, Reflagged}

abbrev agree : Bool → Bool → Bool
agree true b = b
agree false b = not b

agree_true : (a b : Bool) → agree a b ≡ true → a ≡ b
agree_true true true e = refl
agree_true true false e = absurd (false≢true e)
agree_true false true e = absurd (false≢true e)
agree_true false false e = refl

abbrev same5 : Flags → Flags → Bool
same5 x y = agree x.breaks y.breaks && agree x.locked y.locked

abbrev same4 : Flags → Flags → Bool
same4 x y = agree x.perr y.perr && same5 x y

abbrev same3 : Flags → Flags → Bool
same3 x y = agree x.terr y.terr && same4 x y

abbrev same2 : Flags → Flags → Bool
same2 x y = agree x.command y.command && same3 x y

abbrev same1 : Flags → Flags → Bool
same1 x y = agree x.mouse y.mouse && same2 x y

abbrev same : Flags → Flags → Bool
same x y = agree x.full y.full && same1 x y

same_true : (x y : Flags) → same x y ≡ true → x ≡ y
same_true x y e =
    let e1 = and_true (agree x.full y.full) (same1 x y) e in
    let e2 = and_true (agree x.mouse y.mouse) (same2 x y) e1.1 in
    let e3 = and_true (agree x.command y.command) (same3 x y) e2.1 in
    let e4 = and_true (agree x.terr y.terr) (same4 x y) e3.1 in
    let e5 = and_true (agree x.perr y.perr) (same5 x y) e4.1 in
    let e6 = and_true (agree x.breaks y.breaks) (agree x.locked y.locked) e5.1 in
    λ i. record {
      full = agree_true x.full y.full e1.0 i;
      mouse = agree_true x.mouse y.mouse e2.0 i;
      command = agree_true x.command y.command e3.0 i;
      terr = agree_true x.terr y.terr e4.0 i;
      perr = agree_true x.perr y.perr e5.0 i;
      breaks = agree_true x.breaks y.breaks e6.0 i;
      locked = agree_true x.locked y.locked e6.1 i;
    }

-- a change of the byte that does to the flags what g says and leaves bit 7 alone
abbrev Does : (ℕ → ℕ) → (Flags → Flags) → Type 0
Does change g = (f : ℕ) → f < 256 → Reflagged (g (flags_of f)) f (change f)

abbrev does : (ℕ → ℕ) → (Flags → Flags) → ℕ → Bool
does change g f = same (flags_of (change f)) (g (flags_of f)) && eqb (change f / 128) (f / 128)

-- it is one where the test passes at each byte
by_test : (change : ℕ → ℕ) (g : Flags → Flags) → every (does change g) 256 ≡ true → Does change g
by_test change g passed f h =
    let both = and_true _ _ (every_below (does change g) 256 passed f h) in
    record { flags = same_true _ _ both.0; spare = eqb-true _ _ both.1 }

pub output-flags : (x y : Bool) → Does (λ f. f / 4 * 4 + weight 1 x + weight 2 y) (with_output x y)
output-flags true true = by_test (λ f. f / 4 * 4 + 1 + 2) (with_output true true) refl
output-flags true false = by_test (λ f. f / 4 * 4 + 1 + 0) (with_output true false) refl
output-flags false true = by_test (λ f. f / 4 * 4 + 0 + 2) (with_output false true) refl
output-flags false false = by_test (λ f. f / 4 * 4 + 0 + 0) (with_output false false) refl

pub command-flags : (x : Bool) → Does (λ f. f / 8 * 8 + f % 4 + weight 4 x) (with_command x)
command-flags true = by_test (λ f. f / 8 * 8 + f % 4 + 4) (with_command true) refl
command-flags false = by_test (λ f. f / 8 * 8 + f % 4 + 0) (with_command false) refl

pub error_flags : (x y : Bool) → Does (λ f. f / 32 * 32 + f % 8 + weight 8 x + weight 16 y) (with_errors x y)
error_flags true true = by_test (λ f. f / 32 * 32 + f % 8 + 8 + 16) (with_errors true true) refl
error_flags true false = by_test (λ f. f / 32 * 32 + f % 8 + 8 + 0) (with_errors true false) refl
error_flags false true = by_test (λ f. f / 32 * 32 + f % 8 + 0 + 16) (with_errors false true) refl
error_flags false false = by_test (λ f. f / 32 * 32 + f % 8 + 0 + 0) (with_errors false false) refl

pub break_flags : (x : Bool) → Does (λ f. f / 64 * 64 + f % 32 + weight 32 x) (with_breaks x)
break_flags true = by_test (λ f. f / 64 * 64 + f % 32 + 32) (with_breaks true) refl
break_flags false = by_test (λ f. f / 64 * 64 + f % 32 + 0) (with_breaks false) refl

pub lock_flags : (x : Bool) → Does (λ f. f / 128 * 128 + f % 64 + weight 64 x) (with_locked x)
lock_flags true = by_test (λ f. f / 128 * 128 + f % 64 + 64) (with_locked true) refl
lock_flags false = by_test (λ f. f / 128 * 128 + f % 64 + 0) (with_locked false) refl

-- ---- the byte that a machine has of them
module _ (p : Public) where
  pub flags_full : has (flags p) 0 ≡ p.output.full
  flags_full = lines_0 _ _ _ _ _ _ _ _

  pub flags-mouse : has (flags p) 1 ≡ p.output.mouse
  flags-mouse = lines_1 _ _ _ _ _ _ _ _

  pub flags-command : has (flags p) 2 ≡ p.host.command
  flags-command = lines_2 _ _ _ _ _ _ _ _

  pub flags-terr : has (flags p) 3 ≡ p.errors.terr
  flags-terr = lines_3 _ _ _ _ _ _ _ _

  pub flags-perr : has (flags p) 4 ≡ p.errors.perr
  flags-perr = lines_4 _ _ _ _ _ _ _ _

  pub flags-breaks : has (flags p) 5 ≡ p.breaks
  flags-breaks = lines_5 _ _ _ _ _ _ _ _

  pub flags-locked : has (flags p) 6 ≡ p.locked
  flags-locked = lines_6 _ _ _ _ _ _ _ _

  pub flags_below : flags p < 128
  flags_below = lines_below _ _ _ _ _ _ _ _ refl
