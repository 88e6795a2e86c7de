-- A refusal that a `?` passes on is the one that the callee gave, and no number of a check is 0. Assumes nothing.
use mathlib.Core.Path.{◌≡◌, refl, sym}
use lib.Dec.{eqb}
use borrow.Author.Tests.{ne_eqb}
use native.Mathlib.Omega.{arith}
use Rattle.std.specs.Prelude.{Result, Ok, Err}
use Rattle.std.specs.Result.{IsErrAnd, is_ok}
use Rattle.std.proofs.lemmas.Result.{err_from_is_err_and}
use Rattle.refusals.specs.declared.refusal.Refusal.{Refusal}
use Rattle.refusals.specs.Numbers.{number, outcome}

pub no_zero : (r : Refusal) → number r ≡ 0 → ⊥
no_zero r e = grind arith

pub passed_on : {T : Type 0} {x : Refusal} (r : Result T Refusal) → IsErrAnd r (λ y. y ≡ x) → r ≡ Err x
passed_on r is = let p = err_from_is_err_and r is in rw (p.1, p.2) refl

-- a call that answers Ok is one whose number is 0
pub ok-zero : {T : Type 0} (r : Result T Refusal) → is_ok r ≡ eqb (outcome r) 0
ok-zero (Ok x) = refl
ok-zero (Err x) = sym (ne_eqb (number x) 0 (no_zero x))
