-- Bools as bits of a number, and packets. Assumes nothing.
use Prim.Native.Nat.{ℕ, zero, suc, ◌+◌, ◌*◌, ◌≤◌, ◌<◌}
use mathlib.Core.Path.{◌≡◌}
use mathlib.Core.Bool.{Bool, true, false}
use native.Mathlib.Omega.{arith}
use mir.Val.{bool_byte}
use Rattle.translation.specs.Bits.{weight, nibble}
use Rattle.translation.proofs.Lists.{Below}
use Rattle.trackball.specs.Counters.{negative}
use Rattle.trackball.specs.Trackball.{Mouse}
use Rattle.trackball.specs.Packets.{packet}

-- ---- a Bool as a number
pub one_most : (b : Bool) → bool_byte b ≤ 1
one_most true = omega arith
one_most false = omega arith

weight-one : (w : ℕ) (b : Bool) → weight w b ≡ w * bool_byte b
weight-one w true = omega arith
weight-one w false = omega arith

pub nibble-ones : (a b c d : Bool) → nibble a b c d ≡ bool_byte a + 2 * bool_byte b + 4 * bool_byte c + 8 * bool_byte d
unfolding nibble
nibble-ones a b c d = omega (arith, weight-one 1 a, weight-one 2 b, weight-one 4 c, weight-one 8 d)

-- ---- packet

nibble_below : (a b c d : Bool) → nibble a b c d < 16
nibble_below a b c d = omega (arith, nibble-ones a b c d, one_most a, one_most b, one_most c, one_most d)

-- the three of them are bytes
pub packet_below : (m : Mouse) → Below 256 (packet m)
unfolding packet
packet_below m zero =
    omega (arith, nibble_below (negative m.x.sum) (negative m.y.sum) m.x.overflow m.y.overflow)
packet_below m (suc zero) = omega arith
packet_below m (suc (suc zero)) = omega arith
packet_below m (suc (suc (suc k))) = omega arith
