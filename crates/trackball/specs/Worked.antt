-- Document 02, W8: packets at the ends of a sum, as the rows of one table.
use Rattle.std.specs.Prelude.{ℕ, ◌+◌, ◌*◌, ◌-◌, List, [], ◌∷◌, ℤ, pos, negsuc}
use Rattle.trackball.specs.Trackball.{Mouse, fresh, moved}
use Rattle.trackball.specs.Packets.{packet}

-- Steps from fresh, all along one axis; the packet's first byte if that is x, and the low byte of its sum.
pub record Row : Type 0 where
  pub steps : List ℤ
  pub head : ℕ
  pub low : ℕ

abbrev pub row : List ℤ → ℕ → ℕ → Row
row steps head low = record { steps = steps; head = head; low = low }

-- moves along x alone or along y alone, with no button
abbrev pub along_x : List ℤ → Mouse → Mouse
along_x [] m = m
along_x (z ∷ zs) m = along_x zs (moved 0 z (pos 0) m)

abbrev pub along_y : List ℤ → Mouse → Mouse
along_y [] m = m
along_y (z ∷ zs) m = along_y zs (moved 0 (pos 0) z m)

-- The two packets of each row, by the definitions.
unfoldable pub packets : List Row → List (List ℕ)
packets [] = []
packets (r ∷ rs) = packet (along_x r.steps fresh) ∷ packet (along_y r.steps fresh) ∷ packets rs

-- The two packets of each row, as the row has them. Along y, sign and overflow stand one bit higher.
unfoldable pub tabulated : List Row → List (List ℕ)
tabulated [] = []
tabulated (r ∷ rs) = (r.head ∷ r.low ∷ 0 ∷ []) ∷ ((8 + 2 * (r.head - 8)) ∷ 0 ∷ r.low ∷ []) ∷ tabulated rs

-- 255, 256, -256, -257; 255 and 1, 256 and -10, -257 and 256.
unfoldable pub table : List Row
table =
    row (pos 255 ∷ []) 0x08 0xFF ∷
    row (pos 256 ∷ []) 0x48 0xFF ∷
    row (negsuc 255 ∷ []) 0x18 0x00 ∷
    row (negsuc 256 ∷ []) 0x58 0x00 ∷
    row (pos 255 ∷ pos 1 ∷ []) 0x48 0xFF ∷
    row (pos 256 ∷ negsuc 9 ∷ []) 0x48 0xF5 ∷
    row (negsuc 256 ∷ pos 256 ∷ []) 0x48 0x00 ∷ []
