-- Document 02, W5: the keys that a lock has counted, the newest first, and when they open it. A beginning is a prefix of the code, and to end with
-- it is to have it as a suffix.
use Rattle.std.specs.Prelude.{ℕ, zero, suc, ◌-◌, Bool, true, false, cond, ◌&&◌, List, [], ◌∷◌, reverse, length, take, eqb}

abbrev pub same : List ℕ → List ℕ → Bool
same [] [] = true
same [] (y ∷ ys) = false
same (x ∷ xs) [] = false
same (x ∷ xs) (y ∷ ys) = eqb x y && same xs ys

-- The last keys counted, as many as these bytes, are these bytes.
unfoldable pub end_with : List ℕ → List ℕ → Bool
end_with keys bytes = same (take (length bytes) keys) (reverse bytes)

-- The rule: the newest key opens the lock exactly if the keys end with the code.
abbrev pub code_typed : List ℕ → List ℕ → Bool
code_typed code keys = end_with keys code

-- the longest beginning of the code, of at most n bytes, that the keys end with
unfoldable pub longest : List ℕ → ℕ → List ℕ → ℕ
longest code zero keys = zero
longest code (suc n) keys = cond (end_with keys (take (suc n) code)) (suc n) (longest code n keys)

-- the most bytes that a beginning shorter than the code can have
abbrev pub shorter : List ℕ → ℕ
shorter code = length code - 1

-- The position that keys lead to: the longest such beginning that is shorter than the code.
abbrev pub reached : List ℕ → List ℕ → ℕ
reached code keys = longest code (shorter code) keys

-- The keys that a position stands for, and that count as typed after a load: the first bytes of the code, as many as the position says.
unfoldable pub begun : List ℕ → ℕ → List ℕ
begun code k = reverse (take k code)

-- One key more behind those that position k stands for: whether it opens the lock, and the position that it leads to.
abbrev pub key_completes : List ℕ → ℕ → ℕ → Bool
key_completes code k x = code_typed code (x ∷ begun code k)

abbrev pub key_leads : List ℕ → ℕ → ℕ → ℕ
key_leads code k x = reached code (x ∷ begun code k)

-- the position after keys that come one by one at position k
unfoldable pub position_after : List ℕ → ℕ → List ℕ → ℕ
position_after code k [] = k
position_after code k (x ∷ keys) = key_leads code (position_after code k keys) x
