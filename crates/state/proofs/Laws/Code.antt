-- The lock code as sixteen bytes of which the first n are the code. Assumes nothing.
use mathlib.Core.Path.{◌≡◌, ◌∙◌, ap, sym}
use mathlib.Core.Bool.{true, false, not}
use mathlib.Core.List.{List, [], ◌∷◌, ◌++◌}
use Prim.Native.Nat.{ℕ, ◌+◌, ◌≤◌, ◌<◌, min}
use native.Mathlib.Omega.{arith}
use native.Mathlib.Numerals.{add-one}
use lib.ListN.{length, take, drop, get_or, set, length-take, length-drop}
use lib.Seq.{take-suc-set, get_or-take, get_or-drop}
use lib.Dec.{leb, eqb}
use borrow.Author.Tests.{le-leb, lt-leb, eq-eqb, ne_eqb, eqb-true, eqb-false}
use Rattle.translation.proofs.Tests.{split}
use Rattle.state.specs.View.{state_length, code_of, view}
use Rattle.machine.specs.Commands.{has_code}
use Rattle.machine.specs.State.{lift}
use Rattle.machine.specs.DataPort.{settled, dropped, appended, load_byte}

module _ (n : ℕ) (bytes : List ℕ) (long : length bytes ≡ 16) where
  pub code-length : length (take n bytes) ≡ min n 16
  code-length = length-take n bytes ∙ ap (min n) long

  pub code-full : 16 ≤ n → leb 16 (length (take n bytes)) ≡ true
  code-full h = le-leb 16 (length (take n bytes)) (simp code-length (omega arith))

  pub code-room : n < 16 → leb 16 (length (take n bytes)) ≡ false
  code-room h = lt-leb 16 (length (take n bytes)) (simp code-length (omega arith))

  -- there is a code where n is not 0
  pub eqb-code : eqb n 0 ≡ eqb (length (take n bytes)) 0
  eqb-code =
      split (eqb n 0)
      (λ h. h ∙ sym (eq-eqb (length (take n bytes)) 0 (none (eqb-true n 0 h))))
      (λ h. h ∙ sym (ne_eqb (length (take n bytes)) 0 (some (eqb-false n 0 h))))
    where
      none : n ≡ 0 → length (take n bytes) ≡ 0
      none e = simp code-length (omega arith)

      some : (n ≡ 0 → ⊥) → length (take n bytes) ≡ 0 → ⊥
      some f e = f (omega (arith, code-length))

  -- the code after one more byte is stored behind it
  pub code-append : n < 16 → (v : ℕ) → take (n + 1) (set bytes n v) ≡ take n bytes ++ (v ∷ [])
  code-append h v = rw add-one (take-suc-set bytes n v (omega arith))

-- ---- in the state
-- the bytes that hold the lock code
pub code_long : (s : List ℕ) → length s ≡ state_length → length (take 16 (drop 12 s)) ≡ 16
code_long s long = simp (length-take, length-drop) (omega arith)

-- its length, by the byte that counts it
pub length_most : (s : List ℕ) → length s ≡ state_length → 16 < get_or s 10 0 → 16 ≡ length (take (get_or s 10 0) (take 16 (drop 12 s)))
length_most s long h = omega (arith, code-length (get_or s 10 0) (take 16 (drop 12 s)) (code_long s long))

pub length_read : (s : List ℕ) → length s ≡ state_length → get_or s 10 0 ≤ 16 → get_or s 10 0 ≡ length (take (get_or s 10 0) (take 16 (drop 12 s)))
length_read s long h = omega (arith, code-length (get_or s 10 0) (take 16 (drop 12 s)) (code_long s long))

-- and whether there is one
pub code_some : (s : List ℕ) → length s ≡ state_length → not (eqb (get_or s 10 0) 0) ≡ has_code (view s)
code_some s long = ap not (eqb-code (get_or s 10 0) (take 16 (drop 12 s)) (code_long s long))

pub code-byte : (s : List ℕ) (k : ℕ) → k < 16 → get_or s (12 + k) 0 ≡ get_or (take 16 (drop 12 s)) k 0
code-byte s k h = sym (get_or-take 16 (drop 12 s) k 0 h ∙ get_or-drop 12 s k 0)

-- the code's byte k, which the program reads in the state
pub code_read : (s : List ℕ) (k : ℕ) → k < length (code_of s) → get_or s (12 + k) 0 ≡ get_or (code_of s) k 0
code_read s k h =
    let inside : k < min (get_or s 10 0) (min 16 (length (drop 12 s))) = simp length-take at h in
    code-byte s k (omega arith) ∙ sym (get_or-take (get_or s 10 0) (take 16 (drop 12 s)) k 0 (omega arith))

-- a byte of a load, by that count
module _ (s : List ℕ) (v : ℕ) (long : length s ≡ state_length) (some : v ≡ 0 → ⊥) where
  pub load_byte-full : 16 ≤ get_or s 10 0 → dropped (lift settled (view s)) ≡ load_byte v (view s)
  unfolding load_byte
  load_byte-full h = simp (ne_eqb _ _ some, code-full (get_or s 10 0) (take 16 (drop 12 s)) (code_long s long) h)

  pub load_byte-room : get_or s 10 0 < 16 → appended v (view s) ≡ load_byte v (view s)
  unfolding load_byte
  load_byte-room h = simp (ne_eqb _ _ some, code-room (get_or s 10 0) (take 16 (drop 12 s)) (code_long s long) h)
