-- "Saved image", an image of either edition read: checks 10 and 11, and the body as edition 2 has it (document 02, W9).
use Rattle.std.specs.Prelude.{ℕ, ◌≡◌, cond, List, [], ◌∷◌, ◌++◌, take, eqb, Result, IfOk}
use Rattle.refusals.specs.declared.refusal.Refusal.{Refusal}
use Rattle.refusals.specs.Numbers.{outcome}
use Rattle.image_bytes.specs.Checks.{first_of}
use Rattle.image_bytes.specs.Layout.{body_length}
use Rattle.image_bytes.specs.Find.{body_size, found}
use Rattle.body_rules.specs.Rules.{body_kept}

-- What edition 1 has no place for, as a start with no option leaves it: bytes 60-63.
abbrev pub plain_bytes : List ℕ
plain_bytes = 0 ∷ 0x3F ∷ 3 ∷ 0 ∷ []

-- A body as edition 2 has it: those four bytes stand behind one of edition 1, and one of edition 2 is as it is.
unfoldable pub completed : List ℕ → List ℕ
completed b = take body_length (b ++ plain_bytes)

-- Check 10: too few bytes for the edition, or mark, edition, distance or sum is wrong. Check 11: the body breaks a body rule.
unfoldable pub find_refusal : List ℕ → ℕ
find_refusal bytes = cond (eqb (body_size bytes) 0) 10 0

unfoldable pub body_refusal : List ℕ → ℕ
body_refusal b = cond (body_kept (completed b)) 0 11

abbrev pub image_refusal : List ℕ → ℕ
image_refusal bytes = first_of (find_refusal bytes) (body_refusal (found bytes))

-- An image read: refused by its number, or its body as edition 2 has it.
pub record BodyRead (bytes : List ℕ) (answer : Result (List ℕ) Refusal) : Type 0 where
  pub refusal : outcome answer ≡ image_refusal bytes
  pub body : IfOk answer (λ b. b ≡ completed (found bytes))
