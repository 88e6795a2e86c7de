-- Laws of the definitions in specs/Sum. Assumes nothing.
use Rattle.std.proofs.Common.{◌≡◌, ℕ, suc, ◌+◌, ◌<◌, ◌≤◌, List, [], ◌∷◌, length, refl, ap, arith, zero, ◌/◌, ◌%◌, w16}
use Rattle.std.specs.Prelude.{fold}
use Rattle.std.specs.Int.{from_le_bytes}
use Rattle.std.specs.Simd.{first_chunks}
use Rattle.translation.specs.Bits.{word}
use Rattle.image_bytes.specs.Sum.{low_byte, high_byte, words, total, word_sum}

-- ---- words
pub words_short : (l : List ℕ) → length l ≤ 1 → words l ≡ []
unfolding words
words_short [] h = refl
words_short (x ∷ []) h = refl
words_short (x ∷ y ∷ l) h = absurd (omega arith)

-- ---- the bytes in pairs, added up from a on
abbrev pub added : ℕ → List ℕ → ℕ
added a pair = (a + from_le_bytes w16 pair) % 65536

fold-pairs : (n a : ℕ) (l : List ℕ) → n ≡ length l / 2 → a < 65536 → fold added a (first_chunks 2 n l) ≡ (a + total (words l)) % 65536
unfolding words total
fold-pairs zero a l h below = let none : total (words l) ≡ 0 = ap total (words_short l (omega arith)) in omega arith
fold-pairs (suc n) a [] h below = absurd (omega arith)
fold-pairs (suc n) a (x ∷ []) h below = absurd (omega arith)
fold-pairs (suc n) a (x ∷ y ∷ l) h below =
    let rest = fold-pairs n (added a (x ∷ y ∷ [])) l (omega arith) (omega arith) in
    omega (arith, rest)

-- ---- word_sum
pub word_sum-pairs : (l : List ℕ) → fold added 0 (first_chunks 2 (length l / 2) l) ≡ word_sum l
unfolding word_sum
word_sum-pairs l = omega (arith, fold-pairs (length l / 2) 0 l refl (omega arith))

pub word_sum_below : (l : List ℕ) → word_sum l < 65536
unfolding word_sum
word_sum_below l = omega arith

-- ---- word, low_byte, high_byte
pub word_of_bytes : (w : ℕ) → w < 65536 → word (low_byte w) (high_byte w) ≡ w
word_of_bytes w h = omega arith

pub low_of_word : (low high : ℕ) → low < 256 → low_byte (word low high) ≡ low
low_of_word low high h = omega arith

pub high_of_word : (low high : ℕ) → low < 256 → high < 256 → high_byte (word low high) ≡ high
high_of_word low high h k = omega arith
