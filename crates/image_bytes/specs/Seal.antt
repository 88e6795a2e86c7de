-- "Saved image", an image written: check 9, and the bytes that the caller lent.
use Rattle.std.specs.Prelude.{◌≡◌, ℕ, cond, List, ◌++◌, length, drop, ◌==◌, nat_lt}

-- Check 9: the space has not the n bytes of the image.
unfoldable pub space_refusal : ℕ → List ℕ → ℕ
space_refusal n space = cond (nat_lt (length space) n) 9 0

-- The image stands in the first bytes and those past it stay; where check 9 stands nothing is written.
unfoldable pub image_written : List ℕ → List ℕ → List ℕ
image_written image space = cond (space_refusal (length image) space == 0) (image ++ drop (length image) space) space

-- An image written to space that was lent: its number, and every byte of the space.
pub record Written (image space : List ℕ) (number : ℕ) (space' : List ℕ) : Type 0 where
  pub refusal : number ≡ space_refusal (length image) space
  pub bytes : space' ≡ image_written image space
