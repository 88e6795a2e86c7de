-- What the program finds of the RAM and the key table in the state. Assumes nothing.
use mathlib.Core.Path.{◌≡◌, ap, sym, ◌∙◌}
use mathlib.Core.List.{List}
use mathlib.Core.Bool.{Bool, false}
use Prim.Native.Nat.{ℕ, ◌+◌, ◌≤◌, ◌<◌}
use native.Mathlib.Omega.{arith}
use lib.ListN.{length, get_or, take, drop, length-take, get_or-eq_default}
use lib.Seq.{get_or-take, get_or-drop}
use Rattle.translation.specs.Bits.{nibble}
use Rattle.machine.specs.Lines.{cell_of}
use Rattle.machine.proofs.Laws.Lines.{nibble_most}
use Rattle.state.specs.View.{state_length, public}
use Rattle.state.proofs.Laws.View.{ram_of}

-- ---- cell_of
-- the program finds a cell behind the first 28 bytes
pub cell_of-at : (s : List ℕ) (k : ℕ) → length s ≡ state_length → k < 32 → get_or s (28 + k) 0 ≡ cell_of (public s) k
cell_of-at s k long h = sym (ap (λ (xs : List ℕ). get_or xs k 0) (ram_of s long) ∙ get_or-take 32 (drop 28 s) k 0 h ∙ get_or-drop 28 s k 0)

pub cell_of-none : (s : List ℕ) (k : ℕ) → length s ≡ state_length → 32 ≤ k → 0 ≡ cell_of (public s) k
cell_of-none s k long h = sym (ap (λ (xs : List ℕ). get_or xs k 0) (ram_of s long) ∙ get_or-eq_default (take 32 (drop 28 s)) 0 (simp length-take (omega arith)))

-- ---- the key table
-- an entry stands behind the first 65 bytes
pub entry_at : (s : List ℕ) (b : ℕ) → get_or s (65 + b) 0 ≡ get_or (public s).settings.table b 0
entry_at s b = sym (get_or-drop 65 s b 0)

-- ---- the status
-- its low bits without OBF and IBF
pub low_most : {n : ℕ} (c d : Bool) → n ≡ nibble false false c d → n ≤ 12
low_most c d made = omega (arith, made, nibble_most c d)
