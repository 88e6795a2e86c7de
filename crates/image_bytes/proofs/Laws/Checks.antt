-- Laws of the definition in specs/Checks. Assumes nothing.
use Rattle.std.proofs.Common.{◌≡◌, ℕ, eqb, sym, ap, ◌∙◌, eq-eqb, ne_eqb, eqb-true}
use borrow.Author.Tests.{eqb-false}
use Rattle.translation.proofs.Tests.{split, cond_true, cond_false}
use Rattle.refusals.specs.declared.refusal.Refusal.{Refusal}
use Rattle.refusals.specs.Numbers.{number}
use Rattle.refusals.proofs.Refused.{no_zero}
use Rattle.image_bytes.specs.Checks.{first_of}

-- ---- first_of
module _ (n m : ℕ) where
  pub first_of-none : n ≡ 0 → first_of n m ≡ m
  unfolding first_of
  first_of-none z = cond_true _ _ _ (eq-eqb n 0 z)

  pub first_of_some : (n ≡ 0 → ⊥) → first_of n m ≡ n
  unfolding first_of
  first_of_some stands = cond_false _ _ _ (ne_eqb n 0 stands)

  pub first_of_zero : first_of n m ≡ 0 → (n ≡ 0) × (m ≡ 0)
  first_of_zero z =
      split (eqb n 0)
      (λ e. let none = eqb-true n 0 e in (none, sym (first_of-none none) ∙ z))
      (λ e. let stands = eqb-false n 0 e in absurd (stands (sym (first_of_some stands) ∙ z)))

pub first_of-assoc : (n m k : ℕ) → first_of n (first_of m k) ≡ first_of (first_of n m) k
first_of-assoc n m k =
    split (eqb n 0)
    (λ e.
    let none = eqb-true n 0 e in
    first_of-none n _ none ∙ ap (λ (x : ℕ). first_of x k) (sym (first_of-none n m none)))
    (λ e.
    let stands = eqb-false n 0 e in
    first_of_some n _ stands ∙ sym (first_of_some n k stands) ∙ ap (λ (x : ℕ). first_of x k) (sym (first_of_some n m stands)))

-- ---- what refuses
pub first_of_stands : (r : Refusal) {n : ℕ} → number r ≡ n → (m : ℕ) → number r ≡ first_of n m
first_of_stands r {n} e m = e ∙ sym (first_of_some n m (λ z. no_zero r (e ∙ z)))
