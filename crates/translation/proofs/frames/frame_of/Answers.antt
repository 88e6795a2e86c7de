-- `frames::frame_of` meets its contract: with what `parity_of` ensures, antt computes it at each byte.
-- Assumes nothing.
use Prim.Native.Nat.{ℕ, ◌+◌, ◌*◌, ◌%◌}
use mathlib.Core.Path.{refl, ap, ◌∙◌}
use lib.Bits.{bit_xor}
use borrow.Author.Rules.{rules}
use Rattle.translation.specs.Frames.{ones, frame}
use Rattle.translation.proofs.Tests.{equal_below}
use Rattle.translation.proofs.frames.frame_of.Goals as goal

-- the byte with parity and stop bit set
abbrev filled : ℕ → ℕ
filled b = 2 * b + 0x600

pub returns : goal.returns
unfolding frame ones
returns c =
    let b = c.args.byte in
    ap (bit_xor (filled b)) c.parity_of.ensures
    ∙ equal_below (λ b. bit_xor (filled b) (512 * (ones (2 * b) % 2))) frame 256 refl b (search rules)
