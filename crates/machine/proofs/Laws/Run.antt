-- Laws of the definitions in specs/Run: bytes as events, lists laid end to end, the answers' lengths, the answer buffer, and what a call's
-- refusal goes by. Assumes nothing.
use Prim.Native.Nat.{ℕ, zero, suc, ◌+◌, ◌*◌, ◌-◌, ◌/◌, ◌%◌, ◌≤◌, ◌<◌}
use mathlib.Core.Path.{◌≡◌, refl, ap, ap₂, sym, ◌∙◌}
use mathlib.Core.Bool.{not, ◌||◌}
use mathlib.Core.List.{List, [], ◌∷◌, ◌++◌, append_assoc, append-nil}
use native.Mathlib.Omega.{arith}
use lib.Dec.{eqb, ltb}
use lib.ListN.{length, take, drop, length-append, length-take, length-drop}
use lib.Seq.{take-nil, take_at, take_all, drop-drop, take-append-add, take-append-le}
use borrow.Author.Tests.{ltb-false}
use Rattle.machine.specs.State.{Machine}
use Rattle.machine.specs.Events.{Event, event, step, answer, reply, lines, refusal}
use Rattle.machine.specs.Run.{events, first, after, answers, filled, fitting, length_refusal, list_refusal}
use Rattle.machine.specs.Kept.{Kept}
use Rattle.machine.proofs.Laws.Cond.{cond_both, cond_zero}
use Rattle.machine.proofs.Laws.Kept.{keeps}

-- ---- events
pub events-none : (xs : List ℕ) → length xs < 3 → events xs ≡ []
unfolding events
events-none [] h = refl
events-none (k ∷ []) h = refl
events-none (k ∷ l ∷ []) h = refl
events-none (k ∷ l ∷ h ∷ rest) small = absurd (omega arith)

pub events_more : (xs : List ℕ) → 3 ≤ length xs → events xs ≡ first xs ∷ events (drop 3 xs)
unfolding events
events_more [] h = absurd (omega arith)
events_more (k ∷ []) h = absurd (omega arith)
events_more (k ∷ l ∷ []) h = absurd (omega arith)
events_more (k ∷ l ∷ h ∷ rest) enough = refl

pub length-events : (xs : List ℕ) → length (events xs) ≡ length xs / 3
unfolding events
length-events [] = refl
length-events (k ∷ []) = refl
length-events (k ∷ l ∷ []) = refl
length-events (k ∷ l ∷ h ∷ rest) =
    let one : suc (suc (suc (length rest))) / 3 ≡ suc (length rest / 3) = omega arith in
    ap suc (length-events rest) ∙ sym one

-- the first n events of a list, and the rest
pub events-split : (n : ℕ) (list : List ℕ) → 3 * n ≤ length list → events list ≡ events (take (3 * n) list) ++ events (drop (3 * n) list)
unfolding events
events-split zero list h = refl
events-split (suc n) [] h = absurd (omega arith)
events-split (suc n) (k ∷ []) h = absurd (omega arith)
events-split (suc n) (k ∷ l ∷ []) h = absurd (omega arith)
events-split (suc n) (k ∷ l ∷ h ∷ rest) room =
    let more : 3 * suc n ≡ suc (suc (suc (3 * n))) = omega arith in
    rw more (ap (λ (es : List Event). event k l h ∷ es) (events-split n rest (omega arith)))

-- ---- after
pub after_last : (m : Machine) (es : List Event) (e : Event) → after m (es ++ (e ∷ [])) ≡ step (after m es) e
unfolding after
after_last m [] e = refl
after_last m (x ∷ es) e = after_last (step m x) es e

pub after-append : (m : Machine) (es fs : List Event) → after m (es ++ fs) ≡ after (after m es) fs
unfolding after
after-append m [] fs = refl
after-append m (e ∷ es) fs = after-append (step m e) es fs

pub after_kept : (m : Machine) (es : List Event) → Kept m → Kept (after m es)
unfolding after
after_kept m [] k = k
after_kept m (e ∷ es) k = after_kept (step m e) es (keeps m e k)

-- ---- answers
pub answers_last : (m : Machine) (es : List Event) (e : Event) → answers m (es ++ (e ∷ [])) ≡ answers m es ++ answer (after m es) e
unfolding after answers
answers_last m [] e = append-nil (answer m e)
answers_last m (x ∷ es) e = rw (answers_last (step m x) es e, append_assoc)

pub answers-append : (m : Machine) (es fs : List Event) → answers m (es ++ fs) ≡ answers m es ++ answers (after m es) fs
unfolding after answers
answers-append m [] fs = refl
answers-append m (e ∷ es) fs = rw (answers-append (step m e) es fs, append_assoc)

pub length-answer : (m : Machine) (e : Event) → length (answer m e) ≡ 9
unfolding reply lines
length-answer m e = cond_both (λ (xs : List ℕ). length xs ≡ 9) (eqb (refusal m.plain e) 0) refl refl

pub length-answers : (m : Machine) (es : List Event) → length (answers m es) ≡ 9 * length es
unfolding answers
length-answers m [] = refl
length-answers m (e ∷ es) =
    let rest = length-answers (step m e) es in
    let one = length-answer m e in
    length-append (answer m e) (answers (step m e) es) ∙ omega arith

-- ---- fitting
pub fitting_short : (list space : List ℕ) → length list < 3 → fitting list space ≡ []
fitting_short list space h = rw (events-none list h) (take-nil (length space / 9))

pub fitting_tight : (list space : List ℕ) → length space < 9 → fitting list space ≡ []
fitting_tight list space h =
    let none : length space / 9 ≡ 0 = omega arith in
    ap (λ (n : ℕ). take n (events list)) none

pub fitting_more : (list space : List ℕ) → 3 ≤ length list → 9 ≤ length space → fitting list space ≡ first list ∷ fitting (drop 3 list) (drop 9 space)
fitting_more list space h room =
    let one : length space / 9 ≡ suc ((length space - 9) / 9) = omega arith in
    rw (events_more list h, one, length-drop 9 space)

-- a list's first n events
module _ (n : ℕ) (list space : List ℕ) (some : 3 * n ≤ length list) where
  pub length_piece : length (events (take (3 * n) list)) ≡ n
  length_piece = length-events (take (3 * n) list) ∙ simp length-take (omega arith)

  -- they have room, and so has what fits of the rest
  pub fitting_piece : 9 * n ≤ length space → fitting (take (3 * n) list) space ≡ events (take (3 * n) list)
  fitting_piece room = take_all (length space / 9) (events (take (3 * n) list)) (omega (arith, length_piece))

  pub fitting-split : 9 * n ≤ length space →
      fitting list space ≡ events (take (3 * n) list) ++ fitting (drop (3 * n) list) (drop (9 * n) space)
  fitting-split room =
      let es = events (take (3 * n) list) in
      let count : length space / 9 ≡ length es + length (drop (9 * n) space) / 9 = simp length-drop (omega (arith, length_piece)) in
      ap₂ (λ (k : ℕ) (fs : List Event). take k fs) count (events-split n list some)
      ∙ take-append-add es (events (drop (3 * n) list)) (length (drop (9 * n) space) / 9)

  -- they do not all have room: what stands behind them changes nothing
  pub fitting_cut : length space < 9 * n → fitting (take (3 * n) list) space ≡ fitting list space
  fitting_cut tight =
      let es = events (take (3 * n) list) in
      sym (ap (take (length space / 9)) (events-split n list some) ∙ take-append-le (length space / 9) es (events (drop (3 * n) list)) (omega (arith, length_piece)))

-- where the call is not refused
pub fitting_all : (list space : List ℕ) → list_refusal list space ≡ 0 → fitting list space ≡ events list
unfolding length_refusal
fitting_all list space a =
    let room = (cond_zero (ltb (length space) (length list / 3 * 9)) 7 0 (cond_zero (not (eqb (length list % 3) 0) || ltb 21000 (length list)) 6 _ a).1).0 in
    let enough : length list / 3 * 9 ≤ length space = ltb-false (length space) (length list / 3 * 9) room in
    take_all (length space / 9) (events list) (rw (length-events list) (omega arith))

-- ---- filled
pub filled_none : (m : Machine) (space : List ℕ) → filled m [] space ≡ space
unfolding filled answers
filled_none m space = refl

pub filled_more : (m : Machine) (e : Event) (es : List Event) (space : List ℕ) → answer m e ++ filled (step m e) es (drop 9 space) ≡ filled m (e ∷ es) space
unfolding filled answers
filled_more m e es space =
    let far : 9 + 9 * length es ≡ 9 * suc (length es) = omega arith in
    sym (append_assoc (answer m e) (answers (step m e) es) (drop (9 * length es) (drop 9 space)))
    ∙ ap (λ (xs : List ℕ). (answer m e ++ answers (step m e) es) ++ xs) (drop-drop (9 * length es) 9 space ∙ ap (λ (n : ℕ). drop n space) far)

-- two lists laid end to end: the second's answers stand behind the first's
pub filled-append : (m : Machine) (es fs : List Event) (space : List ℕ) →
    filled m (es ++ fs) space ≡ answers m es ++ filled (after m es) fs (drop (9 * length es) space)
unfolding filled
filled-append m es fs space =
    let far : 9 * length (es ++ fs) ≡ 9 * length es + 9 * length fs = simp length-append (omega arith) in
    ap₂ (λ (a b : List ℕ). a ++ b) (answers-append m es fs) (ap (λ (n : ℕ). drop n space) far)
    ∙ append_assoc (answers m es) (answers (after m es) fs) (drop (9 * length es + 9 * length fs) space)
    ∙ ap (λ (d : List ℕ). answers m es ++ (answers (after m es) fs ++ d)) (sym (drop-drop (9 * length fs) (9 * length es) space))

-- the answers stand at the buffer's front
pub take-filled : (m : Machine) (es : List Event) (space : List ℕ) → take (9 * length es) (filled m es space) ≡ answers m es
unfolding filled
take-filled m es space = take_at (answers m es) (drop (9 * length es) space) (9 * length es) (length-answers m es)

-- ---- list_refusal
-- lists of one length, with answer buffers of one length, are refused by one number
pub list_refusal-length : (xs ys s t : List ℕ) → length xs ≡ length ys → length s ≡ length t → list_refusal xs s ≡ list_refusal ys t
list_refusal-length xs ys s t p q = rw (p, q)
