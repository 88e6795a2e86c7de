-- The lock code in the state against the keys typed, as cases of the definitions. Assumes nothing.
use Prim.Native.Nat.{ℕ, suc, ◌+◌, ◌-◌, ◌≤◌, ◌<◌}
use mathlib.Core.Path.{◌≡◌, refl, sym, ap, ◌∙◌, subst}
use mathlib.Core.Bool.{Bool, true, false, cond, ◌&&◌, and-false}
use mathlib.Core.List.{List, ◌∷◌}
use native.Mathlib.Omega.{arith}
use lib.ListN.{length, take, get_or}
use lib.Seq.{take_all, take-length}
use lib.Dec.{eqb}
use borrow.Author.Tests.{eq-eqb, ne_eqb}
use Rattle.machine.specs.Lock.{end_with, longest, begun}
use Rattle.machine.proofs.Laws.Lock.{ends-none, ends_next, begun-next, begun_itself, longest_cut, next_longer}
use Rattle.state.specs.View.{code_of}
use Rattle.state.proofs.Laws.Code.{code_read}

module _ (s : List ℕ) where
  abbrev code : List ℕ
  code = code_of s

  -- nothing is left
  module _ (keys : List ℕ) (n : ℕ) (none : n ≡ 0) where
    pub repeats-end : true ≡ end_with keys (take n code)
    repeats-end = rw none (sym (ends-none code keys))

    pub longest-end : 0 ≡ longest code n keys
    unfolding longest
    longest-end = rw none

  -- two beginnings, the first `by` bytes longer: whether one ends with the other, by their last bytes and by what stands before these
  module _ (by n : ℕ) (some : 0 < n) (most : by + n ≤ length code) where
    repeats-next : end_with (begun code (by + n)) (take n code)
        ≡ (eqb (get_or s (12 + (by + (n - 1))) 0) (get_or s (12 + (n - 1)) 0) && end_with (begun code (by + (n - 1))) (take (n - 1) code))
    repeats-next =
        let longer : by + n ≡ suc (by + (n - 1)) = omega arith in
        let one : n ≡ suc (n - 1) = omega arith in
        let within : by + (n - 1) < length code = omega arith in
        let inside : n - 1 < length code = omega arith in
        ap (λ (k : ℕ). end_with (begun code k) (take n code)) longer
        ∙ ap (λ (k : ℕ). end_with (begun code (suc (by + (n - 1)))) (take k code)) one
        ∙ rw (begun-next code _ within, ends_next code _ inside, code_read s _ within, code_read s _ inside)

    pub repeats-on : get_or s (12 + (n - 1)) 0 ≡ get_or s (12 + (by + (n - 1))) 0 →
        end_with (begun code (by + (n - 1))) (take (n - 1) code) ≡ end_with (begun code (by + n)) (take n code)
    repeats-on e = sym (repeats-next ∙ rw (eq-eqb _ _ (sym e)))

    pub repeats-not : (get_or s (12 + (n - 1)) 0 ≡ get_or s (12 + (by + (n - 1))) 0 → ⊥) → false ≡ end_with (begun code (by + n)) (take n code)
    repeats-not f = sym (repeats-next ∙ rw (ne_eqb _ _ (λ e. f (sym e))))

  -- x behind keys of which a beginning of the code is sought, from n bytes down; j is one less
  module _ (keys : List ℕ) (x n j : ℕ) (one : n ≡ suc j) (most : n ≤ length code) where
    longest-next : longest code n (x ∷ keys) ≡ cond (eqb x (get_or s (12 + j) 0) && end_with keys (take j code)) n (longest code j (x ∷ keys))
    unfolding longest
    longest-next =
        let inside : j < length code = omega arith in
        subst (λ (k : ℕ). longest code k (x ∷ keys) ≡ cond (eqb x (get_or s (12 + j) 0) && end_with keys (take j code)) k (longest code j (x ∷ keys)))
        (sym one) (rw (ends_next code j inside, code_read s j inside))

    pub longest-found : {t : Bool} → x ≡ get_or s (12 + j) 0 → t ≡ end_with keys (take j code) → t ≡ true → n ≡ longest code n (x ∷ keys)
    longest-found e is_t t = sym (longest-next ∙ rw (eq-eqb _ _ e, sym is_t ∙ t))

    pub longest-other : (x ≡ get_or s (12 + j) 0 → ⊥) → longest code j (x ∷ keys) ≡ longest code n (x ∷ keys)
    longest-other f = sym (longest-next ∙ rw (ne_eqb _ _ f))

    pub longest-shorter : {t : Bool} → t ≡ end_with keys (take j code) → t ≡ false → longest code j (x ∷ keys) ≡ longest code n (x ∷ keys)
    longest-shorter is_t t = sym (longest-next ∙ simp (sym is_t ∙ t, and-false))

  -- the key behind a position within the code, and behind one that is not
  module _ (x k : ℕ) (within : k < length code) where
    one_more : longest code (suc k) (x ∷ begun code k) ≡ longest code (length code) (x ∷ begun code k)
    one_more = sym (longest_cut code _ (suc k) _ within (next_longer code x k))

    pub reach-next : x ≡ get_or s (12 + k) 0 → k + 1 ≡ longest code (length code) (x ∷ begun code k)
    reach-next e =
        let next : k + 1 ≡ suc k = omega arith in
        next ∙ longest-found (begun code k) x (suc k) k refl within e (sym (begun_itself code k (omega arith))) refl ∙ one_more

    pub reach-back : (x ≡ get_or s (12 + k) 0 → ⊥) → longest code k (x ∷ begun code k) ≡ longest code (length code) (x ∷ begun code k)
    reach-back f = longest-other (begun code k) x (suc k) k refl within f ∙ one_more

  pub reach_past : (x k n : ℕ) → n ≡ length code → n ≤ k →
      longest code n (x ∷ begun code n) ≡ longest code (length code) (x ∷ begun code k)
  unfolding begun
  reach_past x k n whole h =
      rw (whole, take-length code, take_all k code (omega arith))
