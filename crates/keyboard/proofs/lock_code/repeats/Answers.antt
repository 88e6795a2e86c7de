-- `keyboard::lock_code::repeats` meets its contract. Both beginnings are compared by their last bytes and then pair by pair, which the definition does
-- from their ends.
-- Assumes nothing.
use Prim.Native.Nat.{ℕ, zero, suc, ◌+◌, ◌-◌, ◌≤◌, ◌<◌, min}
use mathlib.Core.Path.{◌≡◌, ap, sym, ◌∙◌}
use mathlib.Core.Bool.{true, false, ◌&&◌, and-false}
use mathlib.Core.List.{List, [], ◌∷◌, ◌++◌}
use native.Mathlib.Omega.{arith}
use lib.Dec.{eqb}
use lib.ListN.{length, take, drop, get_or, length-take, length-drop}
use lib.Seq.{take-suc, take-take, get_or-drop, length-take-le}
use lib.Pointwise.{pointwise}
use borrow.Author.Tests.{eq-eqb, ne_eqb, eqb-true, eqb-false}
use Rattle.std.proofs.lemmas.List.{drop-take}
use Rattle.std.specs.List.{ends_with}
use Rattle.translation.proofs.Tests.{split}
use Rattle.machine.specs.Lock.{end_with, begun}
use Rattle.machine.proofs.Laws.Lock.{ends-none, ends_next, begun-next}
use Rattle.state.specs.View.{code_of}
use Rattle.state.proofs.Laws.Lock.{repeats-not}
use Rattle.keyboard.proofs.lock_code.repeats.Goals as goal

eqb_turned : (x y : ℕ) → eqb x y ≡ eqb y x
eqb_turned x y =
    split (eqb x y) (λ e. e ∙ sym (eq-eqb y x (sym (eqb-true x y e)))) (λ e. e ∙ sym (ne_eqb y x (λ same. eqb-false x y e (sym same))))

-- the last pair may as well come first
pointwise-last : (xs ys : List ℕ) (x y : ℕ) → length xs ≡ length ys →
    pointwise eqb (xs ++ (x ∷ [])) (ys ++ (y ∷ [])) ≡ (eqb y x && pointwise eqb xs ys)
pointwise-last [] [] x y long = ap (λ b. b && true) (eqb_turned x y)
pointwise-last [] (b ∷ ys) x y long = cc
pointwise-last (a ∷ xs) [] x y long = cc
pointwise-last (a ∷ xs) (b ∷ ys) x y long =
    let rest = pointwise-last xs ys x y (omega arith) in
    split (eqb a b) (λ t. simp t rest) (λ t. simp (t, and-false))

module _ (code : List ℕ) where
  from : (by n : ℕ) → by + n ≤ length code → pointwise eqb (take n code) (take n (drop by code)) ≡ end_with (begun code (by + n)) (take n code)
  from by zero most = sym (ends-none code _)
  from by (suc n) most =
      let inside : n < length code = omega arith in
      let left : n < length (drop by code) = simp length-drop (omega arith) in
      let alike : length (take n code) ≡ length (take n (drop by code)) = simp length-take (omega (arith, left)) in
      let longer : by + suc n ≡ suc (by + n) = omega arith in
      ap (λ (l : List ℕ). pointwise eqb l (take (suc n) (drop by code))) (take-suc code n 0 inside)
      ∙ ap (λ (l : List ℕ). pointwise eqb (take n code ++ (get_or code n 0 ∷ [])) l) (take-suc (drop by code) n 0 left)
      ∙ pointwise-last (take n code) (take n (drop by code)) (get_or code n 0) (get_or (drop by code) n 0) alike
      ∙ rw (longer, get_or-drop by code n 0, from by n (omega arith), begun-next code (by + n) (omega arith), ends_next code n inside)

  ends : (k n : ℕ) → n ≤ k → k ≤ length code → ends_with eqb (take k code) (take n code) ≡ end_with (begun code k) (take n code)
  ends k n less most =
      let whole : k - n + n ≡ k = omega arith in
      let cut : drop (k - n) (take k code) ≡ take n (drop (k - n) code) =
      ap (λ (m : ℕ). drop (k - n) (take m code)) (sym whole) ∙ drop-take (k - n) n code in
      rw (length-take-le k code most, length-take-le n code (omega arith), cut)
      (from (k - n) n (omega arith) ∙ ap (λ (m : ℕ). end_with (begun code m) (take n code)) whole)

-- the code's first bytes stand in the state from byte 12 on
stored : (s : List ℕ) (k : ℕ) → k ≤ length (code_of s) → take (12 + k - 12) (drop 12 s) ≡ take k (code_of s)
stored s k most =
    let within : k ≤ min (get_or s 10 0) (min 16 (length (drop 12 s))) = simp length-take at most in
    ap (λ (n : ℕ). take n (drop 12 s)) (omega arith)
    ∙ sym (take-take k (get_or s 10 0) (take 16 (drop 12 s)) (omega arith) ∙ take-take k 16 (drop 12 s) (omega arith))

-- two beginnings whose last bytes differ
differ : (s : List ℕ) (k n : ℕ) → n ≤ k → k ≤ length (code_of s) → 0 < n → (get_or s (12 + (n - 1)) 0 ≡ get_or s (12 + (k - 1)) 0 → ⊥) →
    false ≡ end_with (begun (code_of s) k) (take n (code_of s))
differ s k n less most some other =
    let code = code_of s in
    let whole : k - n + n ≡ k = omega arith in
    let last : 12 + (k - n + (n - 1)) ≡ 12 + (k - 1) = omega arith in
    repeats-not s (k - n) n some (omega arith) (λ e. other (e ∙ ap (λ (at : ℕ). get_or s at 0) last))
    ∙ ap (λ (m : ℕ). end_with (begun code m) (take n code)) whole

pub returns-then-s-n : goal.returns-then-s-n
returns-then-s-n c = differ c.args.s.now c.args.k c.args.n c.requires.0 c.requires.1 c.if-n-gt0.true c.if-s-n.true

pub returns : goal.returns
returns c =
    let args = c.args in
    let s = args.s.now in
    let (less, most, _) = c.requires in
    c.ends_with.ensures.value
    ∙ (λ i. ends_with eqb (stored s args.k most i) (stored s args.n (omega arith) i))
    ∙ ends (code_of s) args.k args.n less most
