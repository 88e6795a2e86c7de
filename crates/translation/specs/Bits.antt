-- Bits and bytes of a number. Bits are counted from 0, the lowest.
use Rattle.std.specs.Prelude.{ℕ, ◌+◌, ◌-◌, ◌*◌, ◌/◌, ◌%◌, ◌^◌, Bool, cond, ◌&&◌, eqb, leb}

-- bit k of n, as a number
abbrev pub bit : ℕ → ℕ → ℕ
bit n k = n / 2 ^ k % 2

-- bit k of n is 1
abbrev pub has : ℕ → ℕ → Bool
has n k = eqb (bit n k) 1

-- bit k of n set or cleared
abbrev pub set_bit : ℕ → ℕ → ℕ
set_bit n k = n - bit n k * 2 ^ k + 2 ^ k

abbrev pub clear_bit : ℕ → ℕ → ℕ
clear_bit n k = n - bit n k * 2 ^ k

-- w where the line is set, else 0
abbrev pub weight : ℕ → Bool → ℕ
weight w b = cond b w 0

-- four lines as a number, the first the lowest
unfoldable pub nibble : Bool → Bool → Bool → Bool → ℕ
nibble a b c d = weight 1 a + weight 2 b + weight 4 c + weight 8 d

-- the word of two bytes, low byte first
abbrev pub word : ℕ → ℕ → ℕ
word low high = low + 256 * high

-- n is one of the numbers from low to high
abbrev pub within : ℕ → ℕ → ℕ → Bool
within low high n = leb low n && leb n high
