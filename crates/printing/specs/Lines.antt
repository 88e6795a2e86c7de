-- "Answers and the printing program": lines of bytes.
use Rattle.std.specs.Prelude.{ℕ, zero, suc, List, [], ◌∷◌, ◌++◌, take, drop}
use Rattle.printing.specs.Hex.{hex_byte}

-- bytes in hexadecimal, single spaces (32) between
unfoldable pub spaced : List ℕ → List ℕ
spaced [] = []
spaced (b ∷ []) = hex_byte b
spaced (b ∷ c ∷ rest) = hex_byte b ++ 32 ∷ spaced (c ∷ rest)

-- "Each line ends in LF" (10).
unfoldable pub line : List ℕ → List ℕ
line bytes = spaced bytes ++ 10 ∷ []

-- a line for each nine bytes, so many of them
unfoldable pub lines : ℕ → List ℕ → List ℕ
lines zero bytes = []
lines (suc n) bytes = line (take 9 bytes) ++ lines n (drop 9 bytes)
