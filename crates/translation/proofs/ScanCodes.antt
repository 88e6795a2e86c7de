-- What is true of translation: its cases, and that a byte stays a byte. Assumes nothing.
use Prim.Native.Nat.{ℕ, ◌<◌}
use mathlib.Core.Path.{◌≡◌}
use mathlib.Core.Bool.{Bool, true, false}
use mathlib.Core.List.{List}
use native.Mathlib.Omega.{arith}
use lib.ListN.{get_or}
use lib.Dec.{eqb}
use borrow.Author.Tests.{ne_eqb}
use Rattle.translation.specs.ScanCodes.{byte, code, translate}
use Rattle.translation.proofs.Tests.{split}

-- translate

pub translate-other : (t : List ℕ) (b : ℕ) (k : Bool) → (b ≡ 0xF0 → ⊥) → translate t b k ≡ record { yields = byte (code (get_or t b 0) k); breaks = false }
unfolding translate
translate-other t b k other = simp (ne_eqb _ _ other)

-- A byte stays a byte: of a code, and by any table of bytes.

pub code_below : (x : ℕ) (k : Bool) → x < 256 → code x k < 256
code_below x false h = h
code_below x true h = omega arith

pub translate_below : (t : List ℕ) → ((b : ℕ) → get_or t b 0 < 256) → (b : ℕ) (k : Bool) (x : ℕ) → (translate t b k).yields ≡ byte x → x < 256
unfolding translate
translate_below t bytes b k x e =
    split (eqb b 0xF0) (λ h. let z : ◌≡◌ {A = ℕ} 0 1 = cc (simp h at e) in omega arith)
    (λ h. let same : code (get_or t b 0) k ≡ x = cc (simp h at e) in
    omega (arith, code_below (get_or t b 0) k (bytes b)))
