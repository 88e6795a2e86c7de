-- `frames::parity_of` meets its contract: antt computes it at each number of eleven bits. The mask keeps the product within sixteen bits.
-- Assumes nothing.
use Prim.Native.Nat.{ℕ, ◌*◌, ◌/◌, ◌%◌}
use mathlib.Core.Path.{refl}
use native.Mathlib.Omega.{arith}
use lib.Bits.{bit_and, bit_xor, and_le_r}
use Rattle.translation.specs.Frames.{ones}
use Rattle.translation.proofs.Tests.{equal_below}
use Rattle.translation.proofs.frames.parity_of.Goals as goal

-- the program's fold, its mask and its result
abbrev folded : ℕ → ℕ
folded f = bit_xor f (f / 2)

abbrev mask : ℕ
mask = 0xAA

abbrev result : ℕ → ℕ
result f = bit_and (bit_xor (bit_and (folded f) mask * 0x154) f) 0x200

pub overflow_mul-result : goal.overflow_mul-result
overflow_mul-result c = record { fits = omega (arith, and_le_r (folded c.args.f) mask) }

pub returns : goal.returns
unfolding ones
returns c = equal_below result (λ f. 512 * (ones f % 2)) 2048 refl c.args.f c.requires
