-- Laws of the definitions in specs/Lines. Assumes nothing.
use Prim.Native.Nat.{ℕ, zero, suc, ◌*◌, ◌/◌, ◌≤◌}
use mathlib.Core.Path.{◌≡◌, refl, ap, subst, sym, ◌∙◌}
use mathlib.Core.List.{List, [], ◌∷◌, ◌++◌, append-nil}
use native.Mathlib.Omega.{arith}
use lib.ListN.{length, set, take, drop, length-append, length-drop, drop_of_length-le}
use lib.Seq.{take_all, take-append-le, drop-append-le, length-take-le}
use Rattle.std.specs.List.{flat_map}
use Rattle.std.specs.Simd.{first_chunks}
use Rattle.printing.specs.Hex.{hex_byte}
use Rattle.printing.specs.Lines.{spaced, line, lines}
use Rattle.translation.proofs.Lists.{listed, take_listed}

-- ---- line
-- a byte and the space after it
abbrev pub field : ℕ → List ℕ
field b = hex_byte b ++ 32 ∷ []

-- what holds of nine bytes one by one holds of the list of them
of_nine : (P : List ℕ → Type 0) (bytes : List ℕ) → length bytes ≡ 9 → P (listed 0 9 bytes) → P bytes
of_nine P bytes nine holds =
    let all : listed 0 9 bytes ≡ bytes = sym (take_listed 0 9 bytes (omega (arith, nine))) ∙ take_all 9 bytes (omega (arith, nine)) in
    subst P all holds

pub length-line : (bytes : List ℕ) → 1 ≤ length bytes → length (line bytes) ≡ 3 * length bytes
unfolding line spaced hex_byte
length-line [] h = absurd (omega arith)
length-line (b ∷ []) h = refl
length-line (b ∷ c ∷ rest) h =
    let more = length-line (c ∷ rest) (omega arith) in
    let one : length (line (b ∷ c ∷ rest)) ≡ suc (suc (suc (length (line (c ∷ rest))))) = refl in
    one ∙ omega (arith, more)

-- the space after the last byte gives way to LF
pub line_of : (bytes space text : List ℕ) (i : ℕ) → length bytes ≡ 9 → length space ≡ 27 → i ≡ 9 →
    text ≡ flat_map field (take i bytes) ++ drop (3 * i) space → set text 26 10 ≡ line bytes
unfolding line spaced hex_byte
line_of bytes space text i nine room all fields =
    let end : length space ≤ 27 = omega (arith, room) in
    let none = drop_of_length-le space end in
    let whole : text ≡ flat_map field bytes = rw (all, take_all 9 bytes (omega (arith, nine)), none, append-nil) at fields in
    ap (λ (t : List ℕ). set t 26 10) whole ∙ of_nine (λ l. set (flat_map field l) 26 10 ≡ line l) bytes nine refl

-- ---- lines
pub lines_of : (n : ℕ) (bytes : List ℕ) → flat_map line (first_chunks 9 n bytes) ≡ lines n bytes
unfolding lines
lines_of zero bytes = refl
lines_of (suc n) bytes = ap (λ (l : List ℕ). line (take 9 bytes) ++ l) (lines_of n (drop 9 bytes))

-- all nines of some bytes written to the front of a buffer
pub lines_written : (bytes out out' : List ℕ) (nines : List (List ℕ)) (i : ℕ) → nines ≡ first_chunks 9 (length bytes / 9) bytes →
    length nines ≡ length bytes / 9 → i ≡ length nines → out' ≡ flat_map line (take i nines) ++ drop (27 * i) out →
    out' ≡ lines (length bytes / 9) bytes ++ drop (27 * (length bytes / 9)) out
lines_written bytes out out' nines i cut many all written =
    rw (all, take_all (length nines) nines (omega arith), many, cut, lines_of (length bytes / 9) bytes) at written

pub length-lines : (n : ℕ) (bytes : List ℕ) → 9 * n ≤ length bytes → length (lines n bytes) ≡ 27 * n
unfolding lines
length-lines zero bytes h = refl
length-lines (suc n) bytes h =
    let nine : length (take 9 bytes) ≡ 9 = length-take-le 9 bytes (omega arith) in
    let one = length-line (take 9 bytes) (omega arith) in
    let more = length-lines n (drop 9 bytes) (simp length-drop (omega arith)) in
    length-append (line (take 9 bytes)) (lines n (drop 9 bytes)) ∙ omega arith

-- bytes past the last line do not count
pub lines-append : (n : ℕ) (bytes past : List ℕ) → 9 * n ≤ length bytes → lines n (bytes ++ past) ≡ lines n bytes
unfolding lines
lines-append zero bytes past h = refl
lines-append (suc n) bytes past h =
    let nine : 9 ≤ length bytes = omega arith in
    let more = lines-append n (drop 9 bytes) past (simp length-drop (omega arith)) in
    rw (take-append-le 9 bytes past nine, drop-append-le 9 bytes past nine, more)
