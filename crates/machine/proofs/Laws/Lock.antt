-- Laws of the definitions in specs/Lock: what the keys counted before a key have to do with it is told by the position alone.
-- Assumes nothing.
use Prim.Native.Nat.{ℕ, zero, suc, ◌≤◌, ◌<◌}
use mathlib.Core.Path.{◌≡◌, refl, sym, ap, ◌∙◌, subst}
use mathlib.Core.Bool.{true, false, ◌&&◌, and-false, false≢true}
use mathlib.Core.List.{List, [], ◌∷◌, ◌++◌, reverse, reverse-append}
use native.Mathlib.Omega.{arith}
use lib.ListN.{length, take, get_or}
use lib.Seq.{take-suc, take-length, length-take-le}
use lib.Dec.{eqb, ltb}
use borrow.Author.Tests.{eq-eqb, eqb-true, eqb-false, ltb-true, ltb-false}
use Rattle.translation.proofs.Tests.{split, and_true}
use Rattle.machine.proofs.Laws.Cond.{not_both}
use Rattle.machine.specs.Lock.{end_with, code_typed, longest, shorter, reached, begun, key_completes, key_leads, position_after}

module _ (code : List ℕ) where
  -- ---- end_with a beginning of the code, key by key
  begun-none : begun code 0 ≡ []
  unfolding begun
  begun-none = refl

  pub begun-next : (k : ℕ) → k < length code → begun code (suc k) ≡ get_or code k 0 ∷ begun code k
  unfolding begun
  begun-next k h = ap reverse (take-suc code k 0 h) ∙ reverse-append (take k code) (get_or code k 0 ∷ [])

  pub ends-none : (keys : List ℕ) → end_with keys (take 0 code) ≡ true
  unfolding end_with
  ends-none keys = refl

  module _ (j : ℕ) (h : j < length code) where
    pub ends_next : (x : ℕ) (keys : List ℕ) → end_with (x ∷ keys) (take (suc j) code) ≡ (eqb x (get_or code j 0) && end_with keys (take j code))
    unfolding end_with begun
    ends_next x keys = rw (length-take-le (suc j) code h, length-take-le j code (omega arith), begun-next j h)

    ends_short : end_with [] (take (suc j) code) ≡ false
    unfolding end_with begun
    ends_short = rw (length-take-le (suc j) code h, begun-next j h)

  -- ---- begun: the keys of a position end with the shorter beginnings that any keys do that end with it, and with no longer one
  begun_longer : (q j : ℕ) → q < j → j ≤ length code → end_with (begun code q) (take j code) ≡ false
  begun_longer q zero h most = absurd (omega arith)
  begun_longer zero (suc j) h most = rw begun-none (ends_short j (omega arith))
  begun_longer (suc q) (suc j) h most =
      simp (begun-next q (omega arith), ends_next j (omega arith), begun_longer q j (omega arith) (omega arith), and-false)

  begun-shorter : (q i : ℕ) (keys : List ℕ) → end_with keys (take q code) ≡ true → i ≤ q → q ≤ length code →
      end_with keys (take i code) ≡ end_with (begun code q) (take i code)
  begun-shorter q zero keys e h most = ends-none keys ∙ sym (ends-none (begun code q))
  begun-shorter zero (suc i) keys e h most = absurd (omega arith)
  begun-shorter (suc q) (suc i) [] e h most = absurd (false≢true (sym (ends_short q (omega arith)) ∙ e))
  begun-shorter (suc q) (suc i) (x ∷ keys) e h most =
      let both = and_true (eqb x (get_or code q 0)) (end_with keys (take q code)) (sym (ends_next q (omega arith) x keys) ∙ e) in
      let rest = begun-shorter q i keys both.1 (omega arith) (omega arith) in
      simp (begun-next q (omega arith), ends_next i (omega arith), eqb-true x (get_or code q 0) both.0, rest)

  pub begun_itself : (k : ℕ) → k ≤ length code → end_with (begun code k) (take k code) ≡ true
  begun_itself zero most = ends-none (begun code zero)
  begun_itself (suc k) most =
      rw (begun-next k (omega arith), ends_next k (omega arith), eq-eqb (get_or code k 0) (get_or code k 0) refl, begun_itself k (omega arith))

  -- ---- longest
  module _ (keys : List ℕ) where
    pub longest-below : (n : ℕ) → longest code n keys ≤ n
    unfolding longest
    longest-below zero = omega arith
    longest-below (suc n) =
        split (end_with keys (take (suc n) code)) (λ t. simp t (omega arith)) (λ t. simp t (omega (arith, longest-below n)))

    longest-ends : (n : ℕ) → end_with keys (take (longest code n keys) code) ≡ true
    unfolding longest
    longest-ends zero = ends-none keys
    longest-ends (suc n) = split (end_with keys (take (suc n) code)) (λ t. rw t t) (λ t. rw t (longest-ends n))

    longest-most : (n j : ℕ) → longest code n keys < j → j ≤ n → end_with keys (take j code) ≡ false
    unfolding longest
    longest-most zero j h most = absurd (omega arith)
    longest-most (suc n) j h most =
        split (end_with keys (take (suc n) code)) (λ t. absurd (omega (arith, simp t at h)))
        (λ t. split (eqb j (suc n)) (λ e. rw (eqb-true j (suc n) e) t) (λ e. longest-most n j (simp t at h) (omega (arith, eqb-false j (suc n) e))))

    -- a beginning that the keys end with, where they end with no longer one
    longest-is : (k n : ℕ) → k ≤ n → end_with keys (take k code) ≡ true → ((j : ℕ) → k < j → j ≤ n → end_with keys (take j code) ≡ false) →
        longest code n keys ≡ k
    longest-is k n most ends none =
        let found = longest code n keys in
        split (ltb found k) (λ t. not_both ends (longest-most n k (ltb-true found k t) most))
        (λ t. split (ltb k found) (λ u. not_both (longest-ends n) (none found (ltb-true k found u) (longest-below n)))
        (λ u. omega (arith, ltb-false found k t, ltb-false k found u)))

  -- keys that end with the same beginnings have the same longest one
  longest-same : (keys other : List ℕ) (n : ℕ) → ((j : ℕ) → j ≤ n → end_with keys (take j code) ≡ end_with other (take j code)) →
      longest code n keys ≡ longest code n other
  unfolding longest
  longest-same keys other zero alike = refl
  longest-same keys other (suc n) alike =
      rw (alike (suc n) (omega arith), longest-same keys other n (λ j h. alike j (omega arith)))

  -- ---- The keys of the position that keys lead to end with the same beginnings as those, and one more key behind both changes nothing of it.
  module _ (keys : List ℕ) where
    reached-alike : (i : ℕ) → i < length code → end_with keys (take i code) ≡ end_with (begun code (reached code keys)) (take i code)
    reached-alike i h =
        let q = longest code (shorter code) keys in
        let most : q ≤ shorter code = longest-below keys (shorter code) in
        split (ltb q i)
        (λ t. let more : q < i = ltb-true _ _ t in
        longest-most keys (shorter code) i more (omega arith) ∙ sym (begun_longer q i more (omega arith)))
        (λ t. begun-shorter q i keys (longest-ends keys (shorter code)) (ltb-false _ _ t) (omega arith))

    next-alike : (x j : ℕ) → j ≤ length code → end_with (x ∷ keys) (take j code) ≡ end_with (x ∷ begun code (reached code keys)) (take j code)
    next-alike x zero most = ends-none _ ∙ sym (ends-none _)
    next-alike x (suc j) most = simp (ends_next j most, reached-alike j most)

    pub reached-next : (x : ℕ) → reached code (x ∷ keys) ≡ key_leads code (reached code keys) x
    reached-next x = longest-same (x ∷ keys) _ (shorter code) (λ j h. next-alike x j (omega arith))

    pub code_typed-next : (x : ℕ) → code_typed code (x ∷ keys) ≡ key_completes code (reached code keys) x
    code_typed-next x =
        subst (λ (c : List ℕ). end_with (x ∷ keys) c ≡ end_with (x ∷ begun code (reached code keys)) c) (take-length code)
        (next-alike x (length code) (omega arith))

  -- no keys lead to position 0, and a position leads to itself
  pub reached-none : reached code [] ≡ 0
  reached-none =
      longest-is [] 0 (shorter code) (omega arith) (ends-none [])
      (λ j more most. subst (λ (l : List ℕ). end_with l (take j code) ≡ false) begun-none (begun_longer 0 j more (omega arith)))

  pub reached-begun : (k : ℕ) → k < length code → reached code (begun code k) ≡ k
  reached-begun k h =
      longest-is (begun code k) k (shorter code) (omega arith) (begun_itself k (omega arith))
      (λ j more most. begun_longer k j more (omega arith))

  -- ---- position_after: from any position below the length, as if the code's first bytes, as many, had been the first keys
  module _ (k : ℕ) (h : k < length code) where
    pub position-after : (keys : List ℕ) → position_after code k keys ≡ reached code (keys ++ begun code k)
    unfolding position_after
    position-after [] = sym (reached-begun k h)
    position-after (x ∷ keys) =
        ap (λ (n : ℕ). key_leads code n x) (position-after keys) ∙ sym (reached-next (keys ++ begun code k) x)

    pub code_typed-after : (x : ℕ) (keys : List ℕ) → key_completes code (position_after code k keys) x ≡ code_typed code (x ∷ (keys ++ begun code k))
    code_typed-after x keys =
        ap (λ (n : ℕ). key_completes code n x) (position-after keys) ∙ sym (code_typed-next (keys ++ begun code k) x)

  -- ---- one key behind a position
  pub next_longer : (x k j : ℕ) → suc k < j → j ≤ length code → end_with (x ∷ begun code k) (take j code) ≡ false
  next_longer x k zero h most = absurd (omega arith)
  next_longer x k (suc j) h most = simp (ends_next j most, begun_longer k j (omega arith) (omega arith), and-false)

  -- where the keys end with no beginning longer than k, those of at most k bytes are all
  pub longest_cut : (keys : List ℕ) (k n : ℕ) → k ≤ n → ((j : ℕ) → k < j → j ≤ n → end_with keys (take j code) ≡ false) →
      longest code n keys ≡ longest code k keys
  longest_cut keys k n most none =
      let below = longest-below keys k in
      longest-is keys (longest code k keys) n (omega (arith, below)) (longest-ends keys k)
      (λ j more upto. split (ltb k j) (λ t. none j (ltb-true k j t) upto) (λ t. longest-most keys k j more (ltb-false k j t)))

  -- the whole code is the longest beginning exactly if it is one that the keys end with; else the longest is shorter
  module _ (keys : List ℕ) {k : ℕ} (is_longest : k ≡ longest code (length code) keys) where
    pub code_typed-whole : k ≡ length code → code_typed code keys ≡ true
    code_typed-whole e = subst (λ (c : List ℕ). end_with keys c ≡ true) (take-length code) (rw (sym (sym is_longest ∙ e)) (longest-ends keys (length code)))

    pub code_typed-part : (k ≡ length code → ⊥) → code_typed code keys ≡ false
    code_typed-part f =
        subst (λ (c : List ℕ). end_with keys c ≡ false) (take-length code)
        (longest-most keys (length code) (length code) (omega (arith, longest-below keys (length code))) (omega arith))

    pub reached-part : (k ≡ length code → ⊥) → k ≡ reached code keys
    reached-part f =
        is_longest
        ∙ longest_cut keys (shorter code) (length code) (omega arith)
        (λ j more upto. longest-most keys (length code) j (omega (arith, longest-below keys (length code))) upto)
