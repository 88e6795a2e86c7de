-- Checks that begin with the value's, as `?` leaves them: at its refusal, and after it. Assumes nothing.
use Prim.Native.Nat.{ℕ, ◌≤◌}
use mathlib.Core.Path.{◌≡◌, refl}
use mathlib.Core.Bool.{Bool, true, false, cond}
use native.Mathlib.Omega.{arith}
use lib.Dec.{ltb}
use borrow.Author.Tests.{ltb-false}
use Rattle.std.specs.Prelude.{Result}
use Rattle.std.specs.Result.{IsErrAnd}
use Rattle.refusals.specs.declared.refusal.Refusal.{Refusal}
use Rattle.refusals.specs.Numbers.{number, outcome}
use Rattle.refusals.proofs.Refused.{no_zero, passed_on}

first : (b : Bool) (rest : ℕ) (x : Refusal) → number x ≡ cond b 2 0 → number x ≡ cond b 2 rest
first true rest x e = e
first false rest x e = absurd (no_zero x e)

-- the value's refusal is passed on, whatever the checks after it say
pub too_large : (b : Bool) (rest : ℕ) (x : Refusal) {T : Type 0} (r : Result T Refusal) → IsErrAnd r (λ y. y ≡ x) →
    number x ≡ cond b 2 0 → outcome r ≡ cond b 2 rest
too_large b rest x r is e = rw (passed_on r is) (first b rest x e)

fits_false : (b : Bool) → ◌≡◌ {A = ℕ} 0 (cond b 2 0) → b ≡ false
fits_false true e = absurd (omega arith)
fits_false false e = refl

-- a value that is not refused fits
pub fits-low : {most n : ℕ} → ◌≡◌ {A = ℕ} 0 (cond (ltb most n) 2 0) → n ≤ most
fits-low {most = most} {n = n} e = ltb-false most n (fits_false (ltb most n) e)
