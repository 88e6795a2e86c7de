-- Laws of the definitions in specs/Layout. Assumes nothing.
use Rattle.std.proofs.Common.{◌≡◌, ℕ, ◌+◌, List, length, length-append}
use Rattle.image_bytes.specs.Layout.{trailer, sealed}

-- ---- sealed
pub length-sealed : (edition : ℕ) (b : List ℕ) → length (sealed edition b) ≡ length b + 8
unfolding sealed trailer
length-sealed edition b = length-append b (trailer edition b)
