-- Document 02, W8: movement along x or y, which is kept as a signed sum. Sum and overflow are the field's movement counter and its overflow flag.
use Rattle.std.specs.Prelude.{ℕ, ◌-◌, ◌%◌, Bool, false, cond, ◌||◌, ℤ, pos, negsuc, ◌+ℤ◌}
use Rattle.std.specs.Int.Signed.{lt_z}

-- The steps since the last packet, added up, and whether an end was passed.
pub record Counter : Type 0 where
  pub sum : ℤ
  pub overflow : Bool

-- no movement
abbrev pub still : Counter
still = record { sum = pos 0; overflow = false }

-- the ends of a sum, -256 and 255
abbrev pub lowest : ℤ
lowest = negsuc 255

abbrev pub highest : ℤ
highest = pos 255

-- A sum below -256 or above 255 stops at that end.
unfoldable pub held : ℤ → ℤ
held z = cond (lt_z z lowest) lowest (cond (lt_z highest z) highest z)

unfoldable pub beyond : ℤ → Bool
beyond z = lt_z z lowest || lt_z highest z

-- A step is added, and the overflow is set where the sum stops; it stays set though the sum comes back.
unfoldable pub stepped : ℤ → Counter → Counter
stepped step c = record { sum = held (c.sum +ℤ step); overflow = c.overflow || beyond (c.sum +ℤ step) }

-- Two's complement in sixteen bits.
unfoldable pub complement : ℤ → ℕ
complement (pos n) = n % 65536
complement (negsuc n) = 65535 - n % 65536

-- A report gives a sum in nine bits: a sign bit and a low byte.
abbrev pub negative : ℤ → Bool
negative z = lt_z z (pos 0)

abbrev pub low_byte : ℤ → ℕ
low_byte z = complement z % 256
