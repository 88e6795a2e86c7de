-- "Frames and scan codes", the key table: the code of scan code set 1 that each byte of set 2 has; and document 02, W7: the tables that a start takes.
use Rattle.std.specs.Prelude.{ℕ, zero, suc, ◌≤◌, ◌≡◌, Bool, true, cond, ◌&&◌, List, [], ◌∷◌, ◌++◌, map, length, get_or, take, drop, eqb}

-- The table for 00h-7Fh, sixteen a row.
unfoldable pub rows : List ℕ
rows =
    0xFF ∷ 0x43 ∷ 0x41 ∷ 0x3F ∷ 0x3D ∷ 0x3B ∷ 0x3C ∷ 0x58 ∷ 0x64 ∷ 0x44 ∷ 0x42 ∷ 0x40 ∷ 0x3E ∷ 0x0F ∷ 0x29 ∷ 0x59 ∷
    0x65 ∷ 0x38 ∷ 0x2A ∷ 0x70 ∷ 0x1D ∷ 0x10 ∷ 0x02 ∷ 0x5A ∷ 0x66 ∷ 0x71 ∷ 0x2C ∷ 0x1F ∷ 0x1E ∷ 0x11 ∷ 0x03 ∷ 0x5B ∷
    0x67 ∷ 0x2E ∷ 0x2D ∷ 0x20 ∷ 0x12 ∷ 0x05 ∷ 0x04 ∷ 0x5C ∷ 0x68 ∷ 0x39 ∷ 0x2F ∷ 0x21 ∷ 0x14 ∷ 0x13 ∷ 0x06 ∷ 0x5D ∷
    0x69 ∷ 0x31 ∷ 0x30 ∷ 0x23 ∷ 0x22 ∷ 0x15 ∷ 0x07 ∷ 0x5E ∷ 0x6A ∷ 0x72 ∷ 0x32 ∷ 0x24 ∷ 0x16 ∷ 0x08 ∷ 0x09 ∷ 0x5F ∷
    0x6B ∷ 0x33 ∷ 0x25 ∷ 0x17 ∷ 0x18 ∷ 0x0B ∷ 0x0A ∷ 0x60 ∷ 0x6C ∷ 0x34 ∷ 0x35 ∷ 0x26 ∷ 0x27 ∷ 0x19 ∷ 0x0C ∷ 0x61 ∷
    0x6D ∷ 0x73 ∷ 0x28 ∷ 0x74 ∷ 0x1A ∷ 0x0D ∷ 0x62 ∷ 0x6E ∷ 0x3A ∷ 0x36 ∷ 0x1C ∷ 0x1B ∷ 0x75 ∷ 0x2B ∷ 0x63 ∷ 0x76 ∷
    0x55 ∷ 0x56 ∷ 0x77 ∷ 0x78 ∷ 0x79 ∷ 0x7A ∷ 0x0E ∷ 0x7B ∷ 0x7C ∷ 0x4F ∷ 0x7D ∷ 0x4B ∷ 0x47 ∷ 0x7E ∷ 0x7F ∷ 0x6F ∷
    0x52 ∷ 0x53 ∷ 0x50 ∷ 0x4C ∷ 0x4D ∷ 0x48 ∷ 0x01 ∷ 0x45 ∷ 0x57 ∷ 0x4E ∷ 0x51 ∷ 0x4A ∷ 0x37 ∷ 0x49 ∷ 0x46 ∷ 0x54 ∷ []

-- 80h-FFh: 83h gives 41h, 84h gives 54h, the rest themselves.
abbrev pub high : ℕ → ℕ
high b = cond (eqb b 0x83) 0x41 (cond (eqb b 0x84) 0x54 b)

-- n numbers from i on
abbrev pub numbers_from : ℕ → ℕ → List ℕ
numbers_from i zero = []
numbers_from i (suc n) = i ∷ numbers_from (suc i) n

-- The built-in table, an entry for each byte.
unfoldable pub built_in : List ℕ
built_in = rows ++ map high (numbers_from 0x80 0x80)

-- how many of the numbers are v
abbrev pub occurrences : ℕ → List ℕ → ℕ
occurrences v [] = 0
occurrences v (x ∷ xs) = cond (eqb x v) (suc (occurrences v xs)) (occurrences v xs)

-- each number of the first list stands once in the second
abbrev pub each_once : List ℕ → List ℕ → Bool
each_once [] xs = true
each_once (v ∷ vs) xs = eqb (occurrences v xs) 1 && each_once vs xs

-- the entries 01h-7Fh of a table
abbrev pub keys : List ℕ → List ℕ
keys table = take 0x7F (drop 1 table)

-- The test that a table passes whose entries 01h-7Fh hold each of 01h-7Fh once.
unfoldable pub permutes : List ℕ → Bool
permutes table = each_once (numbers_from 1 0x7F) (keys table)

-- What the test shows: each entry of 01h-7Fh is in 01h-7Fh, each value there has an index there, and no two indices share one.
pub record Permutation (table : List ℕ) : Type 0 where
  pub within : (k : ℕ) → 1 ≤ k → k ≤ 0x7F → (1 ≤ get_or table k 0) × (get_or table k 0 ≤ 0x7F)
  pub reached : (v : ℕ) → 1 ≤ v → v ≤ 0x7F → (k : ℕ) × (1 ≤ k) × (k ≤ 0x7F) × (get_or table k 0 ≡ v)
  pub unique : (j k : ℕ) → 1 ≤ j → j ≤ 0x7F → 1 ≤ k → k ≤ 0x7F → get_or table j 0 ≡ get_or table k 0 → j ≡ k

-- the byte gives itself
abbrev pub own : List ℕ → ℕ → Bool
own table b = eqb (get_or table b 0) b

-- The test of the fixed entries: 00h gives FFh, and six bytes give themselves.
unfoldable pub fixed : List ℕ → Bool
fixed table =
    eqb (get_or table 0x00 0) 0xFF
    && (own table 0xE0 && (own table 0xE1 && (own table 0xEE && (own table 0xF0 && (own table 0xFA && own table 0xFE)))))

-- Check 13: the length is not 256. Check 14: not each of 01h-7Fh once. Check 15: one of the fixed entries differs.
unfoldable pub table_refusal : List ℕ → ℕ
table_refusal table = cond (eqb (length table) 256) (cond (permutes table) (cond (fixed table) 0 15) 14) 13
