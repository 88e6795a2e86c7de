-- Parts of lists of bytes. Assumes nothing.
use mathlib.Core.Path.{◌≡◌, refl, ap, ap₂, sym, subst, ◌∙◌}
use mathlib.Core.List.{List, [], ◌∷◌, ◌++◌, append-nil, append_assoc}
use Prim.Native.Nat.{ℕ, zero, suc, ◌+◌, ◌-◌, ◌≤◌, ◌<◌}
use native.Mathlib.Omega.{arith}
use lib.ListN.{length, get_or, take, drop, length-take, length-drop, drop_of_length-le, take-append-drop}
use lib.Seq.{take_all, take_at, drop_at, drop-drop, drop-cons, get_or-drop}

-- ---- take, drop
pub take_rest : (n : ℕ) (l : List ℕ) → take (length l - n) (drop n l) ≡ drop n l
take_rest n l = take_all (length l - n) (drop n l) (simp length-drop (omega arith))

-- a list whose part from k on was lent and came back as ys
abbrev pub handed : ℕ → List ℕ → List ℕ → List ℕ
handed k l ys = take k l ++ (ys ++ drop (length l - k) (drop k l))

pub handed_back : (k : ℕ) (l ys : List ℕ) → handed k l ys ≡ take k l ++ ys
handed_back k l ys =
    let end : length (drop k l) ≤ length l - k = simp length-drop (omega arith) in
    rw (drop_of_length-le (drop k l) end, append-nil ys)

-- k bytes at the front, then n bytes at the front of the rest
pub handed_on : (k n : ℕ) (a b space mid ys : List ℕ) → length a ≡ k → mid ≡ a ++ drop k space →
    ys ≡ b ++ drop n (take (length mid - k) (drop k mid)) →
    handed k mid ys ≡ (a ++ b) ++ drop (k + n) space
handed_on k n a b space mid ys long front rest =
    let past : drop k mid ≡ drop k space = ap (drop k) front ∙ drop_at a (drop k space) k long in
    let far : drop n (take (length mid - k) (drop k mid)) ≡ drop (k + n) space = ap (drop n) (take_rest k mid ∙ past) ∙ drop-drop n k space in
    let kept : take k mid ≡ a = ap (take k) front ∙ take_at a (drop k space) k long in
    handed_back k mid ys ∙ ap₂ (λ (x y : List ℕ). x ++ y) kept (rest ∙ ap (λ (z : List ℕ). b ++ z) far) ∙ sym (append_assoc a b (drop (k + n) space))

pub length_part : (a n : ℕ) (l : List ℕ) → a + n ≤ length l → length (take n (drop a l)) ≡ n
length_part a n l h = simp (length-take, length-drop) (omega arith)

-- ---- the n bytes from s on, one by one
abbrev pub listed : ℕ → ℕ → List ℕ → List ℕ
listed s zero l = []
listed s (suc n) l = get_or l s 0 ∷ listed (suc s) n l

pub take_listed : (s n : ℕ) (l : List ℕ) → s + n ≤ length l → take n (drop s l) ≡ listed s n l
take_listed s zero l h = refl
take_listed s (suc n) l h =
    ap (take (suc n)) (drop-cons l s 0 (omega arith)) ∙ ap (λ (r : List ℕ). get_or l s 0 ∷ r) (take_listed (suc s) n l (omega arith))

-- what holds of some bytes one by one, with any more behind them, holds of a list
pub front : (n : ℕ) (P : List ℕ → Type 0) (s : List ℕ) → n ≤ length s → P (listed 0 n s ++ drop n s) → P s
front n P s enough holds =
    subst P (ap (λ (l : List ℕ). l ++ drop n s) (sym (take_listed 0 n s (omega arith))) ∙ take-append-drop n s) holds

-- ---- bytes below m
abbrev pub Below : ℕ → List ℕ → Type 0
Below m l = (k : ℕ) → get_or l k 0 < m

pub below_take : (m n : ℕ) (l : List ℕ) → 0 < m → Below m l → Below m (take n l)
below_take m zero l pos h k = pos
below_take m (suc n) [] pos h k = pos
below_take m (suc n) (x ∷ l) pos h zero = h zero
below_take m (suc n) (x ∷ l) pos h (suc k) = below_take m n l pos (λ j. h (suc j)) k

pub below_drop : (m n : ℕ) (l : List ℕ) → Below m l → Below m (drop n l)
below_drop m n l h k = rw get_or-drop (h (n + k))

pub below_append : (m : ℕ) (xs ys : List ℕ) → Below m xs → Below m ys → Below m (xs ++ ys)
below_append m [] ys h j k = j k
below_append m (x ∷ xs) ys h j zero = h zero
below_append m (x ∷ xs) ys h j (suc k) = below_append m xs ys (λ i. h (suc i)) j k
