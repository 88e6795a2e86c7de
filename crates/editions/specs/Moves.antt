-- Document 02, W9: images moved between the editions, and that there and back gives the same bytes.
use Rattle.std.specs.Prelude.{ℕ, ◌+◌, ◌≡◌, Bool, cond, ◌&&◌, List, ◌++◌, length, take, drop, eqb}
use Rattle.image_bytes.specs.Checks.{first_of}
use Rattle.image_bytes.specs.Layout.{first_length, body_length, trailer_length, image_length, sealed}
use Rattle.image_bytes.specs.Seal.{space_refusal}
use Rattle.image_bytes.specs.Find.{last_bytes, body_size, found}
use Rattle.body_rules.specs.Body.{options_byte, input_latches_byte, high_latches_byte, time_out_byte}
use Rattle.editions.specs.Read.{completed, image_refusal}

-- Edition 1 to 2: the four bytes are added. Edition 2 to 1: they are left out.
unfoldable pub forward : List ℕ → List ℕ
forward bytes = sealed 2 (completed (found bytes))

unfoldable pub back : List ℕ → List ℕ
back bytes = sealed 1 (take first_length (found bytes))

-- Check 10 refuses an image of the other edition too: a move takes one whose body has n bytes.
unfoldable pub edition_refusal : ℕ → List ℕ → ℕ
edition_refusal n bytes = cond (eqb (body_size bytes) n) 0 10

-- Check 16: one of the four bytes is not that of a start with no option, so edition 1 has no place for it.
abbrev pub plain : List ℕ → Bool
plain b = eqb (options_byte b) 0 && (eqb (input_latches_byte b) 0x3F && (eqb (high_latches_byte b) 3 && eqb (time_out_byte b) 0))

unfoldable pub settings_refusal : List ℕ → ℕ
settings_refusal b = cond (plain b) 0 16

-- The checks in their order: 10, 11, going back 16, and 9 last.
unfoldable pub forward_refusal : List ℕ → List ℕ → ℕ
forward_refusal bytes space = first_of (edition_refusal first_length bytes) (first_of (image_refusal bytes) (space_refusal (length (forward bytes)) space))

unfoldable pub back_refusal : List ℕ → List ℕ → ℕ
back_refusal bytes space =
    first_of (edition_refusal body_length bytes)
    (first_of (image_refusal bytes) (first_of (settings_refusal (found bytes)) (space_refusal (length (back bytes)) space)))

-- An image moved to space that was lent: refused by its number with the space as it was, or in its first bytes, those past it staying.
pub record Moved (image : List ℕ) (check : ℕ) (space : List ℕ) (number : ℕ) (space' : List ℕ) : Type 0 where
  pub refusal : number ≡ check
  pub refused : (check ≡ 0 → ⊥) → space' ≡ space
  pub moved : check ≡ 0 → space' ≡ image ++ drop (length image) space

-- An image of edition 1 goes to edition 2, and from there, behind whatever bytes, back to what it was: only space can be wanting.
pub record ForwardAndBack (bytes : List ℕ) : Type 0 where
  pub goes : (space : List ℕ) → forward_refusal bytes space ≡ space_refusal image_length space
  pub comes : (front space : List ℕ) → back_refusal (front ++ forward bytes) space ≡ space_refusal (first_length + trailer_length) space
  pub same : (front : List ℕ) → back (front ++ forward bytes) ≡ last_bytes (first_length + trailer_length) bytes

-- The same of an image of edition 2 that can go back.
pub record BackAndForward (bytes : List ℕ) : Type 0 where
  pub goes : (space : List ℕ) → back_refusal bytes space ≡ space_refusal (first_length + trailer_length) space
  pub comes : (front space : List ℕ) → forward_refusal (front ++ back bytes) space ≡ space_refusal image_length space
  pub same : (front : List ℕ) → forward (front ++ back bytes) ≡ last_bytes image_length bytes
