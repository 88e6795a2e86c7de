-- `translation::bits::nibble` meets its contract. Each weight is the line's own, and the four together stay below 16.
-- Assumes nothing.
use native.Mathlib.Omega.{arith}
use Rattle.translation.specs.Bits.{nibble}
use Rattle.translation.proofs.bits.nibble.Goals as goal

pub returns : goal.returns
unfolding nibble
returns c = (cc, omega arith)
