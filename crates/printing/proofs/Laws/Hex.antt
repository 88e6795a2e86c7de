-- Laws of the definitions in specs/Hex. Assumes nothing.
use Prim.Native.Nat.{ℕ, ◌<◌, ◌/◌, ◌%◌}
use mathlib.Core.Path.{◌≡◌, refl}
use mathlib.Core.List.{List, [], ◌∷◌}
use native.Mathlib.Omega.{arith}
use lib.ListN.{get_or}
use Rattle.printing.specs.Hex.{hex_digit, hex_byte}
use Rattle.translation.proofs.Tests.{equal_below}

-- ---- hex_digit
-- the digits as the program has them
abbrev pub digits : List ℕ
digits = 48 ∷ 49 ∷ 50 ∷ 51 ∷ 52 ∷ 53 ∷ 54 ∷ 55 ∷ 56 ∷ 57 ∷ 65 ∷ 66 ∷ 67 ∷ 68 ∷ 69 ∷ 70 ∷ []

digit_at : (n : ℕ) → n < 16 → get_or digits n 0 ≡ hex_digit n
unfolding hex_digit
digit_at n h = equal_below (λ k. get_or digits k 0) hex_digit 16 refl n h

-- ---- hex_byte
pub hex_byte_digits : (b high low : ℕ) → b < 256 → high ≡ b / 16 → low ≡ b % 16 →
    get_or digits high 0 ∷ get_or digits low 0 ∷ [] ≡ hex_byte b
unfolding hex_byte
hex_byte_digits b high low fits h l = rw (h, l, digit_at (b / 16) (omega arith), digit_at (b % 16) (omega arith)) refl
