-- Sums as bytes: two's complement read back. Assumes nothing.
use Prim.Native.Nat.{ℕ, suc, ◌-◌, ◌/◌, ◌%◌, ◌≤◌, ◌<◌}
use mathlib.Core.Path.{◌≡◌, refl, ap, ◌∙◌}
use mathlib.Core.List.{List, [], ◌∷◌}
use mathlib.Core.Bool.{Bool, true, false}
use native.Mathlib.Omega.{arith}
use lib.ListN.{get_or}
use lib.IntN.{ℤ, pos, negsuc}
use borrow.Author.Tests.{lt-ltb, le-ltb}
use mir.Syntax.{w16}
use mir.Val.{to_z, of_z, SFits}
use mir.ValLaws.{to_z-of_z}
use Rattle.translation.specs.Bits.{has, nibble, word}
use Rattle.trackball.specs.Counters.{complement}
use Rattle.trackball.specs.Trackball.{Mouse, SumInRange, InRange}
use Rattle.std.specs.Int.{from_le_bytes, to_le_bytes}
use Rattle.trackball.proofs.Laws.Counters.{read, within_fits, bits_complement, complement_below}
use Rattle.trackball_calls.specs.Stored.{bytes_of, signed, mouse_of}

-- ---- signed
pub signed_low : (n : ℕ) → n < 32768 → signed n ≡ pos n
unfolding signed
signed_low n h = simp (lt-ltb _ _ h)

pub signed_high : (n : ℕ) → 32768 ≤ n → signed n ≡ negsuc (65535 - n)
unfolding signed
signed_high n h = simp (le-ltb _ _ h)

signed_is : (n : ℕ) → to_z w16 n ≡ signed n
unfolding signed
signed_is n = let same : 65536 - suc n ≡ 65535 - n = omega arith in rw same

-- a sum from its two bytes, as the machine reads it
pub sum_from_bytes : {z : ℤ} (low high : ℕ) → SFits w16 z → z ≡ to_z w16 (from_le_bytes w16 (low ∷ high ∷ [])) → read z ≡ signed (word low high)
sum_from_bytes {z} low high fits from =
    to_z-of_z w16 z fits ∙ from ∙ signed_is (from_le_bytes w16 (low ∷ high ∷ [])) ∙ ap signed (omega arith)

-- the two bytes of a sum, as the machine reads it
pub bytes_from_sum : {z : ℤ} {bytes : List ℕ} → SFits w16 z → bytes ≡ to_le_bytes w16 (of_z w16 (read z)) →
    (get_or bytes 0 0 ≡ complement z % 256) × (get_or bytes 1 0 ≡ complement z / 256)
bytes_from_sum {z} {bytes} fits from =
    let bits : of_z w16 (read z) ≡ complement z = ap (of_z w16) (to_z-of_z w16 z fits) ∙ bits_complement z fits in
    let made : bytes ≡ to_le_bytes w16 (complement z) = from ∙ ap (to_le_bytes w16) bits in
    (ap (λ (l : List ℕ). get_or l 0 0) made ∙ omega arith, ap (λ (l : List ℕ). get_or l 1 0) made ∙ omega (arith, complement_below z))

-- ---- the bytes read back

-- A sum of sixteen bits is what its two's complement stands for.
pub signed-complement : (z : ℤ) → SFits w16 z → signed (complement z) ≡ z
unfolding complement
signed-complement (pos n) p =
    let same : n % 65536 ≡ n = omega (arith, p.sfits) in
    signed_low (n % 65536) (omega (arith, p.sfits)) ∙ ap pos same
signed-complement (negsuc n) p =
    let same : 65535 - (65535 - n % 65536) ≡ n = omega (arith, p.sfits) in
    signed_high (65535 - n % 65536) (omega (arith, p.sfits)) ∙ ap negsuc same

word_bytes : (n : ℕ) → word (n % 256) (n / 256) ≡ n
word_bytes n = omega arith

flags_read : (a b c : Bool) → (has (nibble a b c false) 0 ≡ a) × (has (nibble a b c false) 1 ≡ b) × (has (nibble a b c false) 2 ≡ c)
unfolding nibble
flags_read true true true = (refl, refl, refl)
flags_read true true false = (refl, refl, refl)
flags_read true false true = (refl, refl, refl)
flags_read true false false = (refl, refl, refl)
flags_read false true true = (refl, refl, refl)
flags_read false true false = (refl, refl, refl)
flags_read false false true = (refl, refl, refl)
flags_read false false false = (refl, refl, refl)

-- a sum within its ends fits sixteen bits
in_range_fits : (z : ℤ) → SumInRange z → SFits w16 z
in_range_fits z r = within_fits z r.low r.high

sum_read : (z : ℤ) → SumInRange z → signed (word (complement z % 256) (complement z / 256)) ≡ z
sum_read z r = ap signed (word_bytes (complement z)) ∙ signed-complement z (in_range_fits z r)

-- So what one call stores the next one reads: a trackball in range is what its bytes stand for.
pub mouse_of-bytes_of : (m : Mouse) → InRange m → mouse_of (bytes_of m) ≡ m
unfolding mouse_of bytes_of
mouse_of-bytes_of m r =
    let flags = flags_read m.reporting m.x.overflow m.y.overflow in
    let buttons : m.buttons % 8 ≡ m.buttons = omega (arith, r.buttons) in
    simp (sum_read m.x.sum r.x, sum_read m.y.sum r.y, flags.0, flags.1, flags.2, buttons)
