-- What is true of key tables: a table that passes the test is a permutation, and the built-in one passes every check.
-- Assumes nothing.
use Prim.Native.Nat.{ℕ, zero, suc, ◌+◌, ◌-◌, ◌<◌, ◌≤◌, suc-le-suc}
use mathlib.Core.Path.{◌≡◌, refl, ap, ap₂, ◌∙◌, sym}
use mathlib.Core.Bool.{Bool, true, false, ◌&&◌}
use mathlib.Core.List.{List, [], ◌∷◌}
use mathlib.Core.Logic.{◌⊎◌, inl, inr, ⊎_elim}
use native.Mathlib.Nat.{not-suc-le-zero, le_of_suc-le-suc}
use native.Mathlib.Omega.{arith}
use lib.ListN.{length, get_or, take, drop, set, replicate, length-take, length-set, length-replicate, get_or-replicate, get_or-eq_default}
use lib.Seq.{get_or-take, get_or-drop, get_or-set_same, get_or-set_other}
use lib.Dec.{eqb, ltb}
use borrow.Author.Tests.{eq-eqb, ne_eqb, eqb-true, eqb-false, ltb-true, ltb-false}
use Rattle.std.specs.List.{list_all}
use Rattle.std.proofs.Math.Numerals.{add-one}
use Rattle.translation.specs.KeyTable.{rows, built_in, numbers_from, occurrences, each_once, permutes, Permutation, fixed, table_refusal}
use Rattle.translation.proofs.Tests.{split, and_true, every_below}

-- the built-in table holds bytes
pub built_in_below : (b : ℕ) → get_or built_in b 0 < 256
unfolding built_in rows
built_in_below b =
    split (ltb b 256)
    (λ h. ltb-true _ _ (every_below (λ b. ltb (get_or built_in b 0) 256) 256 refl b (ltb-true b 256 h)))
    (λ h. omega (arith, get_or-eq_default built_in 0 (ltb-false b 256 h)))

-- occurrences

pub occurrences_here : (v x : ℕ) (xs : List ℕ) → x ≡ v → occurrences v (x ∷ xs) ≡ suc (occurrences v xs)
occurrences_here v x xs e = simp (eq-eqb x v e)

pub occurrences_past : (v x : ℕ) (xs : List ℕ) → (x ≡ v → ⊥) → occurrences v (x ∷ xs) ≡ occurrences v xs
occurrences_past v x xs e = simp (ne_eqb x v e)

-- what stands in a list is counted
pub occurrences-at : (xs : List ℕ) (v k : ℕ) → k < length xs → get_or xs k 0 ≡ v → 1 ≤ occurrences v xs
occurrences-at [] v k h e = absurd (not-suc-le-zero h)
occurrences-at (x ∷ xs) v zero h e = omega (arith, occurrences_here v x xs e)
occurrences-at (x ∷ xs) v (suc k) h e =
    split (eqb x v) (λ t. omega (arith, occurrences_here v x xs (eqb-true x v t)))
    (λ t. omega (arith, occurrences_past v x xs (eqb-false x v t), occurrences-at xs v k (le_of_suc-le-suc h) e))

-- what is counted stands in the list
pub occurrences_index : (xs : List ℕ) (v : ℕ) → 1 ≤ occurrences v xs → (k : ℕ) × (k < length xs) × (get_or xs k 0 ≡ v)
occurrences_index [] v h = absurd (not-suc-le-zero h)
occurrences_index (x ∷ xs) v h =
    split (eqb x v) (λ t. (0, omega arith, eqb-true x v t))
    (λ t.
    let rest : (k : ℕ) × (k < length xs) × (get_or xs k 0 ≡ v) = occurrences_index xs v (omega (arith, occurrences_past v x xs (eqb-false x v t))) in
    (suc rest.0, suc-le-suc rest.1, rest.2))

-- what is counted once stands at one index
pub occurrences_once : (xs : List ℕ) (v j k : ℕ) → occurrences v xs ≤ 1 → j < length xs → k < length xs → get_or xs j 0 ≡ v → get_or xs k 0 ≡ v → j ≡ k
occurrences_once [] v j k once hj hk ej ek = absurd (not-suc-le-zero hj)
occurrences_once (x ∷ xs) v zero zero once hj hk ej ek = refl
occurrences_once (x ∷ xs) v zero (suc k) once hj hk ej ek =
    omega (arith, occurrences_here v x xs ej, occurrences-at xs v k (le_of_suc-le-suc hk) ek)
occurrences_once (x ∷ xs) v (suc j) zero once hj hk ej ek =
    omega (arith, occurrences_here v x xs ek, occurrences-at xs v j (le_of_suc-le-suc hj) ej)
occurrences_once (x ∷ xs) v (suc j) (suc k) once hj hk ej ek =
    let hj' : j < length xs = le_of_suc-le-suc hj in
    let hk' : k < length xs = le_of_suc-le-suc hk in
    split (eqb x v) (λ t. omega (arith, occurrences_here v x xs (eqb-true x v t), occurrences-at xs v j hj' ej))
    (λ t. ap suc (occurrences_once xs v j k (omega (arith, occurrences_past v x xs (eqb-false x v t))) hj' hk' ej ek))

-- How many of the numbers are among the n from i on: at most all, and where it is all, each of them is.

abbrev total : ℕ → ℕ → List ℕ → ℕ
total i zero xs = 0
total i (suc n) xs = occurrences i xs + total (suc i) n xs

total_nil : (i n : ℕ) → total i n [] ≡ 0
total_nil i zero = refl
total_nil i (suc n) = omega (arith, total_nil (suc i) n)

-- one number more is among them and is counted, or changes nothing
total_cons : (i n x : ℕ) (xs : List ℕ) → ((i ≤ x) × (x < i + n) × (total i n (x ∷ xs) ≡ suc (total i n xs))) ⊎ (total i n (x ∷ xs) ≡ total i n xs)
total_cons i zero x xs = inr refl
total_cons i (suc n) x xs =
    split (eqb x i)
    (λ t.
    let e : x ≡ i = eqb-true x i t in
    ⊎_elim (λ k. absurd (omega arith)) (λ k. inl (omega arith, omega arith, omega (arith, occurrences_here i x xs e)))
    (total_cons (suc i) n x xs))
    (λ t.
    let e : occurrences i (x ∷ xs) ≡ occurrences i xs = occurrences_past i x xs (eqb-false x i t) in
    ⊎_elim (λ k. inl (omega arith, omega arith, omega arith)) (λ k. inr (omega arith)) (total_cons (suc i) n x xs))

total_le : (i n : ℕ) (xs : List ℕ) → total i n xs ≤ length xs
total_le i n [] = omega (arith, total_nil i n)
total_le i n (x ∷ xs) =
    ⊎_elim (λ k. omega (arith, total_le i n xs)) (λ k. omega (arith, total_le i n xs)) (total_cons i n x xs)

total-within : (i n : ℕ) (xs : List ℕ) → length xs ≤ total i n xs → (k : ℕ) → k < length xs → (i ≤ get_or xs k 0) × (get_or xs k 0 < i + n)
total-within i n [] full k h = absurd (not-suc-le-zero h)
total-within i n (x ∷ xs) full zero h =
    ⊎_elim (λ t. (t.0, t.1)) (λ t. omega (arith, total_le i n xs)) (total_cons i n x xs)
total-within i n (x ∷ xs) full (suc k) h =
    ⊎_elim (λ t. total-within i n xs (omega arith) k (le_of_suc-le-suc h)) (λ t. omega (arith, total_le i n xs))
    (total_cons i n x xs)

-- each_once

pub each_once-occurrences : (i n : ℕ) (xs : List ℕ) → each_once (numbers_from i n) xs ≡ true → (v : ℕ) → i ≤ v → v < i + n → occurrences v xs ≡ 1
each_once-occurrences i zero xs passed v low high = omega arith
each_once-occurrences i (suc n) xs passed v low high =
    let both : (eqb (occurrences i xs) 1 ≡ true) × (each_once (numbers_from (suc i) n) xs ≡ true) = and_true _ _ passed in
    split (eqb v i) (λ t. ap (λ (w : ℕ). occurrences w xs) (eqb-true v i t) ∙ eqb-true _ _ both.0)
    (λ t. each_once-occurrences (suc i) n xs both.1 v (omega (arith, eqb-false v i t)) (omega arith))

each_once-total : (i n : ℕ) (xs : List ℕ) → each_once (numbers_from i n) xs ≡ true → total i n xs ≡ n
each_once-total i zero xs passed = refl
each_once-total i (suc n) xs passed =
    let both : (eqb (occurrences i xs) 1 ≡ true) × (each_once (numbers_from (suc i) n) xs ≡ true) = and_true _ _ passed in
    omega (arith, eqb-true (occurrences i xs) 1 both.0, each_once-total (suc i) n xs both.1)

-- permutes

-- the entries from 1 to n
abbrev entries : ℕ → List ℕ → List ℕ
entries n t = take n (drop 1 t)

-- Of n entries each of 1 to n is one, so that there are n and none is left over.
module _ (n : ℕ) (t : List ℕ) (passed : each_once (numbers_from 1 n) (entries n t) ≡ true) where
  filled : n ≤ total 1 n (entries n t)
  filled = omega (arith, each_once-total 1 n (entries n t) passed)

  long : length (entries n t) ≡ n
  long = omega (arith, filled, length-take n (drop 1 t), total_le 1 n (entries n t))

  entry_next : (k : ℕ) → k < n → get_or (entries n t) k 0 ≡ get_or t (1 + k) 0
  entry_next k h = get_or-take n (drop 1 t) k 0 h ∙ get_or-drop 1 t k 0

  entry : (k : ℕ) → 1 ≤ k → k ≤ n → get_or (entries n t) (k - 1) 0 ≡ get_or t k 0
  entry k low high = entry_next (k - 1) (omega arith) ∙ ap (λ (i : ℕ). get_or t i 0) (omega arith)

  once : (v : ℕ) → 1 ≤ v → v ≤ n → occurrences v (entries n t) ≡ 1
  once v low high = each_once-occurrences 1 n (entries n t) passed v low (omega arith)

  within : (k : ℕ) → 1 ≤ k → k ≤ n → (1 ≤ get_or t k 0) × (get_or t k 0 ≤ n)
  within k low high =
      let e : get_or (entries n t) (k - 1) 0 ≡ get_or t k 0 = entry k low high in
      let h : (1 ≤ get_or (entries n t) (k - 1) 0) × (get_or (entries n t) (k - 1) 0 < 1 + n) =
      total-within 1 n (entries n t) (omega (arith, filled, long)) (k - 1) (omega (arith, long)) in
      (omega arith, omega arith)

  reached : (v : ℕ) → 1 ≤ v → v ≤ n → (k : ℕ) × (1 ≤ k) × (k ≤ n) × (get_or t k 0 ≡ v)
  reached v low high =
      let at : (k : ℕ) × (k < length (entries n t)) × (get_or (entries n t) k 0 ≡ v) =
      occurrences_index (entries n t) v (omega (arith, once v low high)) in
      (1 + at.0, omega arith, omega (arith, long), sym (entry_next at.0 (omega (arith, long))) ∙ at.2)

  unique : (j k : ℕ) → 1 ≤ j → j ≤ n → 1 ≤ k → k ≤ n → get_or t j 0 ≡ get_or t k 0 → j ≡ k
  unique j k lowj highj lowk highk e =
      let w : (1 ≤ get_or t k 0) × (get_or t k 0 ≤ n) = within k lowk highk in
      let same : j - 1 ≡ k - 1 =
      occurrences_once (entries n t) (get_or t k 0) (j - 1) (k - 1) (omega (arith, once (get_or t k 0) w.0 w.1))
      (omega (arith, long)) (omega (arith, long)) (entry j lowj highj ∙ e) (entry k lowk highk) in
      omega arith

pub permutation : (t : List ℕ) → permutes t ≡ true → Permutation t
unfolding permutes
permutation t passed =
    record { within = within 0x7F t passed; reached = reached 0x7F t passed; unique = unique 0x7F t passed }

pub built_in-permutes : permutes built_in ≡ true
unfolding permutes built_in rows
built_in-permutes = refl

pub built_in_permutation : Permutation built_in
built_in_permutation = permutation built_in built_in-permutes

-- tally: what has been seen, byte by byte

pub occurrences_le : (v : ℕ) (xs : List ℕ) → occurrences v xs ≤ length xs
occurrences_le v [] = omega arith
occurrences_le v (x ∷ xs) =
    split (eqb x v) (λ t. omega (arith, occurrences_here v x xs (eqb-true x v t), occurrences_le v xs))
    (λ t. omega (arith, occurrences_past v x xs (eqb-false x v t), occurrences_le v xs))

occurrences-next_here : (v : ℕ) (xs : List ℕ) (k : ℕ) → k < length xs → get_or xs k 0 ≡ v → occurrences v (take (suc k) xs) ≡ suc (occurrences v (take k xs))
occurrences-next_here v [] k h e = absurd (not-suc-le-zero h)
occurrences-next_here v (x ∷ xs) zero h e = occurrences_here v x [] e
occurrences-next_here v (x ∷ xs) (suc k) h e =
    let rest = occurrences-next_here v xs k (le_of_suc-le-suc h) e in
    split (eqb x v)
    (λ t. omega (arith, occurrences_here v x (take (suc k) xs) (eqb-true x v t), occurrences_here v x (take k xs) (eqb-true x v t), rest))
    (λ t. omega (arith, occurrences_past v x (take (suc k) xs) (eqb-false x v t), occurrences_past v x (take k xs) (eqb-false x v t), rest))

occurrences-next_past : (v : ℕ) (xs : List ℕ) (k : ℕ) → k < length xs → (get_or xs k 0 ≡ v → ⊥) → occurrences v (take (suc k) xs) ≡ occurrences v (take k xs)
occurrences-next_past v [] k h e = absurd (not-suc-le-zero h)
occurrences-next_past v (x ∷ xs) zero h e = occurrences_past v x [] e
occurrences-next_past v (x ∷ xs) (suc k) h e =
    let rest = occurrences-next_past v xs k (le_of_suc-le-suc h) e in
    split (eqb x v)
    (λ t. omega (arith, occurrences_here v x (take (suc k) xs) (eqb-true x v t), occurrences_here v x (take k xs) (eqb-true x v t), rest))
    (λ t. omega (arith, occurrences_past v x (take (suc k) xs) (eqb-false x v t), occurrences_past v x (take k xs) (eqb-false x v t), rest))

-- how often each byte stands among the first k numbers
pub record Tallied (xs : List ℕ) (k : ℕ) (seen : List ℕ) : Type 0 where
  pub size : length seen ≡ 256
  pub times : (v : ℕ) → v < 256 → get_or seen v 0 ≡ occurrences v (take k xs)

pub tallied_none : (xs : List ℕ) → Tallied xs 0 (replicate 256 0)
tallied_none xs = record { size = length-replicate {A = ℕ} 256 0; times = λ v h. get_or-replicate {A = ℕ} 256 v 0 0 h }

module _ {xs seen : List ℕ} {k : ℕ} (t : Tallied xs k seen) where
  pub tallied_next : {x : ℕ} → k < length xs → x ≡ get_or xs k 0 → x < 256 → Tallied xs (k + 1) (set seen x (get_or seen x 0 + 1))
  tallied_next {x} h at small = rw (add-one k) (record { size = length-set seen x _ ∙ t.size; times = each })
    where
      each : (v : ℕ) → v < 256 → get_or (set seen x (get_or seen x 0 + 1)) v 0 ≡ occurrences v (take (suc k) xs)
      each v below =
          split (eqb v x)
          (λ same.
          let e : v ≡ x = eqb-true v x same in
          ap (λ (w : ℕ). get_or (set seen x (get_or seen x 0 + 1)) w 0) e ∙ get_or-set_same seen x _ 0 (omega (arith, t.size))
          ∙ omega (arith, t.times v below, occurrences-next_here v xs k h (sym at ∙ sym e), ap (λ (w : ℕ). get_or seen w 0) e))
          (λ same.
          let other : v ≡ x → ⊥ = eqb-false v x same in
          get_or-set_other seen x v _ 0 other ∙ t.times v below ∙ sym (occurrences-next_past v xs k h (λ e. other (sym e ∙ sym at))))

  -- a occurrences of the first k is at most k
  pub tallied_most : {v : ℕ} → v < 256 → get_or seen v 0 ≤ k
  tallied_most {v} below = omega (arith, t.times v below, occurrences_le v (take k xs), length-take k xs)

-- each_once, of the counts from i on
pub each_once-counted : (i : ℕ) (times xs : List ℕ) → ((k : ℕ) → k < length times → get_or times k 0 ≡ occurrences (i + k) xs) → list_all (λ n. eqb n 1) times ≡ each_once (numbers_from i (length times)) xs
each_once-counted i [] xs counted = refl
each_once-counted i (n ∷ times) xs counted =
    ap₂ (λ (s t : Bool). s && t) (ap (λ (m : ℕ). eqb m 1) (counted 0 (omega arith) ∙ ap (λ (v : ℕ). occurrences v xs) (omega arith)))
    (each_once-counted (suc i) times xs (λ k h. counted (suc k) (omega arith) ∙ ap (λ (v : ℕ). occurrences v xs) (omega arith)))

-- the cases of table_refusal

module _ (t : List ℕ) where
  pub refused-length : (length t ≡ 256 → ⊥) → 13 ≡ table_refusal t
  unfolding table_refusal
  refused-length other = simp (ne_eqb (length t) 256 other)

  module _ (long : length t ≡ 256) where
    pub refused-keys : permutes t ≡ false → 14 ≡ table_refusal t
    unfolding table_refusal
    refused-keys failed = simp (eq-eqb (length t) 256 long, failed)

    pub refused-fixed : permutes t ≡ true → fixed t ≡ false → 15 ≡ table_refusal t
    unfolding table_refusal
    refused-fixed passed failed = simp (eq-eqb (length t) 256 long, passed, failed)

    pub refused_none : permutes t ≡ true → fixed t ≡ true → 0 ≡ table_refusal t
    unfolding table_refusal
    refused_none passed kept = simp (eq-eqb (length t) 256 long, passed, kept)

  -- what an accepted table has
  pub accepted-length : table_refusal t ≡ 0 → length t ≡ 256
  accepted-length none =
      split (eqb (length t) 256) (λ e. eqb-true (length t) 256 e)
      (λ e. absurd (omega (arith, none, refused-length (eqb-false (length t) 256 e))))

  pub accepted-permutes : table_refusal t ≡ 0 → permutes t ≡ true
  accepted-permutes none =
      split (permutes t) (λ e. e) (λ e. absurd (omega (arith, none, refused-keys (accepted-length none) e)))

  pub accepted_permutation : table_refusal t ≡ 0 → Permutation t
  accepted_permutation none = permutation t (accepted-permutes none)

  pub accepted-fixed : table_refusal t ≡ 0 → fixed t ≡ true
  accepted-fixed none =
      split (fixed t) (λ e. e)
      (λ e. absurd (omega (arith, none, refused-fixed (accepted-length none) (accepted-permutes none) e)))

-- the built-in table passes every check

built_in-length : length built_in ≡ 256
unfolding built_in rows
built_in-length = refl

built_in-fixed : fixed built_in ≡ true
unfolding fixed built_in rows
built_in-fixed = refl

pub built_in-passes : table_refusal built_in ≡ 0
built_in-passes = sym (refused_none built_in built_in-length built_in-permutes built_in-fixed)
