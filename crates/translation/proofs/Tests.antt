-- What a conjunction or a choice comes to once its first test is known, and what a test that passed shows of its parts; a test that antt computes at
-- each number below a bound, and what it shows of each of them; a table that is made by a rule. Assumes nothing.
use Prim.Native.Nat.{ℕ, zero, suc, ◌+◌, ◌<◌}
use mathlib.Core.Path.{◌≡◌, refl, ap, sym, subst, ◌∙◌}
use mathlib.Core.Bool.{Bool, true, false, cond, ◌&&◌, false≢true}
use mathlib.Core.List.{map}
use native.Mathlib.Omega.{arith}
use native.Mathlib.Nat.{not-suc-le-zero, le_of_suc-le-suc}
use lib.Dec.{eqb}
use lib.ListN.{get_or}
use borrow.Author.Tests.{eqb-true, eqb-false}
use Rattle.translation.specs.KeyTable.{numbers_from}

-- either way of a test
pub split : {A : Type 0} (t : Bool) → (t ≡ true → A) → (t ≡ false → A) → A
split true one other = one refl
split false one other = other refl

-- both parts of a conjunction
pub and_true : (s t : Bool) → (s && t) ≡ true → (s ≡ true) × (t ≡ true)
and_true true t e = (refl, e)
and_true false t e = absurd (false≢true e)

-- a conjunction whose first part is known
pub and_passed : (s t : Bool) → s ≡ true → (s && t) ≡ t
and_passed s t e = ap (λ (x : Bool). x && t) e

pub and_failed : (s t : Bool) → s ≡ false → (s && t) ≡ false
and_failed s t e = ap (λ (x : Bool). x && t) e

pub and_both : (s t : Bool) → s ≡ true → t ≡ true → (s && t) ≡ true
and_both s t e f = and_passed s t e ∙ f

pub and_one : (s : Bool) → (s && true) ≡ s
and_one true = refl
and_one false = refl

pub cond_true : {A : Type 0} (s : Bool) (x y : A) → s ≡ true → cond s x y ≡ x
cond_true s x y e = ap (λ (b : Bool). cond b x y) e

pub cond_false : {A : Type 0} (s : Bool) (x y : A) → s ≡ false → cond s x y ≡ y
cond_false s x y e = ap (λ (b : Bool). cond b x y) e

-- a choice that passed, passed by the side that was chosen
pub cond_shows : (s x y : Bool) → cond s x y ≡ true → (s ≡ true → x ≡ true) × (s ≡ false → y ≡ true)
cond_shows s x y e = (λ h. sym (cond_true s x y h) ∙ e, λ h. sym (cond_false s x y h) ∙ e)

pub cond-passes : (s x y : Bool) → (s ≡ true → x ≡ true) → (s ≡ false → y ≡ true) → cond s x y ≡ true
cond-passes s x y one other = split s (λ h. cond_true s x y h ∙ one h) (λ h. cond_false s x y h ∙ other h)

-- the test passes at each number below n
abbrev pub every : (ℕ → Bool) → ℕ → Bool
every f zero = true
every f (suc n) = f n && every f n

pub every_below : (f : ℕ → Bool) (n : ℕ) → every f n ≡ true → (k : ℕ) → k < n → f k ≡ true
every_below f zero passed k h = absurd (not-suc-le-zero h)
every_below f (suc n) passed k h =
    split (eqb k n) (λ e. subst (λ (m : ℕ). f m ≡ true) (sym (eqb-true k n e)) (and_true (f n) (every f n) passed).0)
    (λ e. every_below f n (and_true (f n) (every f n) passed).1 k (omega (arith, eqb-false k n e)))

-- two functions that antt computes to the same at each number below n
pub equal_below : (f g : ℕ → ℕ) (n : ℕ) → every (λ k. eqb (f k) (g k)) n ≡ true → (k : ℕ) → k < n → f k ≡ g k
equal_below f g n passed k h = eqb-true (f k) (g k) (every_below (λ k. eqb (f k) (g k)) n passed k h)

-- a table that is a rule's values from i on has each of them at its index
tabulated_from : (f : ℕ → ℕ) (i n k : ℕ) → k < n → get_or (map f (numbers_from i n)) k 0 ≡ f (i + k)
tabulated_from f i zero k h = absurd (not-suc-le-zero h)
tabulated_from f i (suc n) zero h = let first : i ≡ i + 0 = omega arith in ap f first
tabulated_from f i (suc n) (suc k) h =
    let next : suc i + k ≡ i + suc k = omega arith in
    tabulated_from f (suc i) n k (le_of_suc-le-suc h) ∙ ap f next

pub tabulated : (f : ℕ → ℕ) (n k : ℕ) → k < n → get_or (map f (numbers_from 0 n)) k 0 ≡ f k
tabulated f n k h = let same : 0 + k ≡ k = omega arith in tabulated_from f 0 n k h ∙ ap f same
