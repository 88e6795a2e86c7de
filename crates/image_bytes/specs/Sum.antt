-- "Saved image", the sum: a body as 16-bit words, low byte first, added up and wrapping at 65,536.
use Rattle.std.specs.Prelude.{ℕ, ◌+◌, ◌/◌, ◌%◌, List, [], ◌∷◌}
use Rattle.translation.specs.Bits.{word}

-- the bytes of a word
abbrev pub low_byte : ℕ → ℕ
low_byte w = w % 256

abbrev pub high_byte : ℕ → ℕ
high_byte w = w / 256 % 256

-- the words of a body of any length; a single byte at its end is none
unfoldable pub words : List ℕ → List ℕ
words [] = []
words (low ∷ []) = []
words (low ∷ high ∷ rest) = word low high ∷ words rest

unfoldable pub total : List ℕ → ℕ
total [] = 0
total (w ∷ ws) = w + total ws

unfoldable pub word_sum : List ℕ → ℕ
word_sum body = total (words body) % 65536
