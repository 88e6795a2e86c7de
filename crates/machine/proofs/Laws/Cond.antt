-- What holds of both branches of a `cond` holds of it; and what a test that failed shows of its parts.
-- Assumes nothing.
use Prim.Native.Nat.{ℕ, suc}
use mathlib.Core.Path.{◌≡◌, refl, ◌∙◌, sym}
use mathlib.Core.Bool.{Bool, true, false, cond, ◌&&◌, ◌||◌, true≢false}
use native.Mathlib.Omega.{arith}

-- ---- cond
pub cond-holds : {A : Type 0} (P : A → Type 0) (b : Bool) {x y : A} → (b ≡ true → P x) → (b ≡ false → P y) → P (cond b x y)
cond-holds P true one other = one refl
cond-holds P false one other = other refl

-- the same where neither branch asks for the test
pub cond_both : {A : Type 0} (P : A → Type 0) (b : Bool) {x y : A} → P x → P y → P (cond b x y)
cond_both P b one other = cond-holds P b (λ _. one) (λ _. other)

-- a chain of numbers that came to 0 passed over its first
pub cond_zero : (b : Bool) (n r : ℕ) → cond b (suc n) r ≡ 0 → (b ≡ false) × (r ≡ 0)
cond_zero true n r e = absurd (omega arith)
cond_zero false n r e = (refl, e)

-- ---- tests
pub not_both : {A : Type 0} {b : Bool} → b ≡ true → b ≡ false → A
not_both t f = absurd (true≢false (sym t ∙ f))

pub and_false : (s t : Bool) → (s && t) ≡ false → s ≡ true → t ≡ false
and_false true t e s = e
and_false false t e s = not_both s refl

pub or_false : (s t : Bool) → (s || t) ≡ false → (s ≡ false) × (t ≡ false)
or_false true t e = not_both refl e
or_false false t e = (refl, e)
