-- The six bytes that a board keeps of a trackball.
use Rattle.std.specs.Prelude.{ℕ, ◌-◌, ◌/◌, ◌%◌, false, cond, List, [], ◌∷◌, ℤ, pos, negsuc, get_or, ltb}
use Rattle.translation.specs.Bits.{has, nibble, word}
use Rattle.trackball.specs.Counters.{complement}
use Rattle.trackball.specs.Trackball.{Mouse}

-- Buttons in bits 0-2; reporting, the overflow of x and that of y in bits 0-2; then the sums, low byte first. Other bits are 0: there are no buttons but
-- three in what is read, moved or fresh.
unfoldable pub bytes_of : Mouse → List ℕ
bytes_of m =
    m.buttons ∷ nibble m.reporting m.x.overflow m.y.overflow false ∷
    complement m.x.sum % 256 ∷ complement m.x.sum / 256 ∷
    complement m.y.sum % 256 ∷ complement m.y.sum / 256 ∷ []

-- The number that sixteen bits in two's complement stand for.
unfoldable pub signed : ℕ → ℤ
signed n = cond (ltb n 32768) (pos n) (negsuc (65535 - n))

-- Read back, from any bytes. Bits that stand for nothing are not looked at.
unfoldable pub mouse_of : List ℕ → Mouse
mouse_of s =
    record {
      x = record { sum = signed (word (get_or s 2 0) (get_or s 3 0)); overflow = has (get_or s 1 0) 1 };
      y = record { sum = signed (word (get_or s 4 0) (get_or s 5 0)); overflow = has (get_or s 1 0) 2 };
      buttons = get_or s 0 0 % 8;
      reporting = has (get_or s 1 0) 0;
    }
