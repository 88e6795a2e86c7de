-- Laws of the definitions in specs/Page. Assumes nothing.
use Prim.Native.Nat.{ℕ, ◌+◌, ◌*◌, ◌/◌, ◌%◌, ◌-◌, ◌≤◌, ◌<◌}
use mathlib.Core.Path.{◌≡◌, refl, ap, subst, sym, ◌∙◌}
use mathlib.Core.Bool.{true, false, cond, not, ◌||◌, and-false}
use mathlib.Core.List.{List, [], ◌++◌}
use native.Mathlib.Omega.{arith}
use lib.ListN.{length, take, drop, length-append}
use lib.Seq.{take_at}
use lib.Dec.{eqb, leb, ltb}
use borrow.Author.Tests.{le-leb, lt-leb}
use Rattle.std.specs.Prelude.{Some, Result}
use Rattle.std.specs.Result.{IsErrAnd}
use Rattle.std.proofs.lemmas.Bool.Decides.{nat_tests}
use Rattle.refusals.specs.declared.refusal.Refusal.{Refusal}
use Rattle.refusals.specs.declared.refusal.Refusal.TheVariants as check
use Rattle.refusals.specs.Numbers.{number, outcome}
use Rattle.refusals.proofs.Refused.{no_zero, passed_on}
use Rattle.machine.specs.Settings.{Settings}
use Rattle.machine.specs.State.{fresh}
use Rattle.machine.specs.Run.{events, answers, filled, length_refusal, list_refusal}
use Rattle.machine.proofs.Laws.Cond.{cond_both}
use Rattle.machine.proofs.Laws.Run.{length-events, length-answers}
use Rattle.printing.specs.Lines.{lines}
use Rattle.printing.specs.declared.page.Printout.{Printout}
use Rattle.printing.specs.Page.{header, refused_text, refused_length, refused, answered, page, over, room, print_refusal, Written, Paged, Printed}
use Rattle.translation.proofs.Lists.{handed, handed_on}
use Rattle.translation.proofs.Tests.{split}
use Rattle.controller.specs.Promises.{FreshRun}
use Rattle.printing.proofs.Laws.Lines.{length-lines}

-- ---- refused_length
pub refused_length_test : (n : ℕ) → refused_length n ≡ (not (eqb (n % 3) 0) || ltb 21000 n)
unfolding refused_length length_refusal
refused_length_test n = grind (arith, nat_tests)

pub refused_length-within : (n : ℕ) → refused_length n ≡ false → n ≤ 21000
refused_length-within n free = grind (arith, nat_tests, refused_length_test n)

-- ---- answered, page
pub length-header : length header ≡ 28
unfolding header
length-header = refl

module _ (x : Settings) (list : List ℕ) (a : refused list ≡ false) where
  pub answered-accepted : answered x list ≡ answers (fresh x) (events list)
  unfolding answered
  answered-accepted = simp a

  pub length-answered : length (answered x list) ≡ 9 * (length list / 3)
  length-answered =
      ap length answered-accepted ∙ length-answers (fresh x) (events list) ∙ ap (λ (n : ℕ). 9 * n) (length-events list)

  pub page-accepted : page x list ≡ header ++ lines (length list / 3) (answered x list)
  unfolding page
  page-accepted = simp (a, length-events)

  pub length-page : length (page x list) ≡ 28 + 27 * (length list / 3)
  length-page =
      let long = length-lines (length list / 3) (answered x list) (omega (arith, length-answered)) in
      ap length page-accepted ∙ length-append header (lines (length list / 3) (answered x list)) ∙ omega (arith, length-header)

module _ (x : Settings) (list : List ℕ) (a : refused list ≡ true) where
  pub answered-refused : answered x list ≡ []
  unfolding answered
  answered-refused = simp a

  pub page-refused : page x list ≡ refused_text
  unfolding page
  page-refused = simp a

-- ---- Written
pub written_all : (bytes out text : List ℕ) → length bytes ≤ length out → text ≡ bytes →
    Written bytes out (length bytes) (text ++ drop (length bytes) out)
written_all bytes out text fits same =
    let large = le-leb (length bytes) (length out) fits in
    record { count = simp large; text = simp large (ap (λ (t : List ℕ). t ++ drop (length bytes) out) same) }

pub written_none : (bytes out : List ℕ) → length out < length bytes → Written bytes out 0 out
written_none bytes out short =
    let small = lt-leb (length bytes) (length out) short in
    record { count = simp small; text = simp small }

-- ---- room
module _ (x : Settings) (list space out : List ℕ) where
  room-refused : refused list ≡ true → room x list space out ≡ leb (length refused_text) (length out)
  unfolding room
  room-refused a =
      let none : leb 0 (length space) ≡ true = le-leb 0 (length space) (omega arith) in
      simp (answered-refused x list a, page-refused x list a, none)

  room_both : refused list ≡ false → 9 * (length list / 3) ≤ length space → 28 + 27 * (length list / 3) ≤ length out →
      room x list space out ≡ true
  unfolding room
  room_both a many long =
      simp (
        length-answered x list a,
        length-page x list a,
        le-leb (9 * (length list / 3)) (length space) many,
        le-leb (28 + 27 * (length list / 3)) (length out) long,
      )

  room_few_answers : refused list ≡ false → length space < 9 * (length list / 3) → room x list space out ≡ false
  unfolding room
  room_few_answers a few = simp (length-answered x list a, lt-leb (9 * (length list / 3)) (length space) few)

  room_short_out : refused list ≡ false → length out < 28 + 27 * (length list / 3) → room x list space out ≡ false
  unfolding room
  room_short_out a short =
      simp (length-page x list a, lt-leb (28 + 27 * (length list / 3)) (length out) short, and-false)

-- ---- list_refusal
list_refusal-refused : (list space : List ℕ) → refused list ≡ true → list_refusal list space ≡ 7
unfolding length_refusal
list_refusal-refused list space a = grind (arith, nat_tests, refused_length_test (length list))

list_refusal-free : (list space : List ℕ) → refused list ≡ false → list_refusal list space ≡ cond (ltb (length space) (length list / 3 * 9)) 8 0
unfolding length_refusal
list_refusal-free list space a = grind (arith, nat_tests, refused_length_test (length list))

-- a list that no check refuses
pub none_refuses : (list space : List ℕ) → 0 ≡ list_refusal list space → (refused list ≡ false) × (9 * (length list / 3) ≤ length space)
none_refuses list space none = grind (arith, nat_tests, list_refusal-refused list space, list_refusal-free list space)

pub none_refuses-within : (list space : List ℕ) → 0 ≡ list_refusal list space → length list ≤ 21000
none_refuses-within list space none = refused_length-within (length list) (none_refuses list space none).0

-- ---- print_refusal
module _ (x : Settings) (list space out : List ℕ) where
  -- by a check of the list and its answers
  number_refuses : (n : ℕ) → (n ≡ 0 → ⊥) → n ≡ list_refusal list space → n ≡ print_refusal x list space out
  number_refuses n some number =
      grind (arith, nat_tests, list_refusal-refused list space, list_refusal-free list space, room_few_answers x list space out)

  pub check_refuses : {T : Type 0} (answer : Result T Refusal) (r : Refusal) → IsErrAnd answer (λ y. y ≡ r) → number r ≡ list_refusal list space →
      outcome answer ≡ print_refusal x list space out
  check_refuses answer r is refuses = rw (passed_on answer is) (number_refuses (number r) (no_zero r) refuses)

  -- by the room for the page
  pub short_refuses : 0 ≡ list_refusal list space → length out < 28 + 27 * (length list / 3) → 8 ≡ print_refusal x list space out
  short_refuses none short = grind (arith, none_refuses list space, room_short_out x list space out)

  pub room_refuses : 0 ≡ list_refusal list space → 28 + 27 * (length list / 3) ≤ length out → 0 ≡ print_refusal x list space out
  room_refuses none long = grind (arith, none_refuses list space, room_both x list space out)

  -- what number 7 shows
  shows_refused : 7 ≡ print_refusal x list space out → refused list ≡ true
  shows_refused seven = grind arith

-- ---- Printed
module _ (x : Settings) (list space out : List ℕ) (space' mid : List ℕ) where
  -- the text of a refused list
  pub printed_refused : (r : Refusal) (n : ℕ) (out' : List ℕ) → r ≡ check.ListLength → number r ≡ print_refusal x list space out →
      (space' ≡ space) × (mid ≡ out) → Written refused_text mid n out' →
      Printed x list space out (record { refusal = Some check.ListLength; written = n }) space' out'
  printed_refused r n out' is refuses same w =
      let seven : 7 ≡ print_refusal x list space out = ap number (sym is) ∙ refuses in
      let a = shows_refused x list space out seven in
      let few = room-refused x list space out a in
      let w' = subst (λ (o : List ℕ). Written refused_text o n out') same.1 w in
      record {
        refusal = seven;
        count = rw (few, page-refused x list a) w'.count;
        answers = rw (answered-refused x list a, same.0) (sym (cond_both (λ (xs : List ℕ). xs ≡ space) (room x list space out) refl refl));
        text = rw (few, page-refused x list a) w'.text;
      }

-- the text lies within its buffer
pub printed_within : {x : Settings} {list space out : List ℕ} {r : Printout} {space' out' : List ℕ} → Printed x list space out r space' out' →
    r.written ≤ length out'
printed_within {x} {list} {space} {out} {r} {space'} {out'} p =
    let long = length-append (page x list) (drop (length (page x list)) out) in
    split (room x list space out) (λ large. omega (arith, rw large at p.count, ap length (rw large at p.text), long))
    (λ small. omega (arith, rw small at p.count))

-- ---- what a run leaves, and the page that is made of it
pub run_printed : (x : Settings) (list space space' out out' : List ℕ) (number : ℕ) → 0 ≡ list_refusal list space → FreshRun x list space space' number →
    let cut = take (9 * (length list / 3)) space' in
    out' ≡ over (header ++ lines (length cut / 9) cut) out →
    Paged x list space out (28 + 27 * (length list / 3)) space' out'
unfolding filled
run_printed x list space space' out out' number none ran text =
    let a = (none_refuses list space none).0 in
    let nine = length-answered x list a in
    let bytes : space' ≡ over (answered x list) space =
    ran.answered (sym none) ∙ rw (length-events list, ← nine, ← answered-accepted x list a) refl in
    let cut : take (9 * (length list / 3)) space' ≡ answered x list =
    ap (take (9 * (length list / 3))) bytes ∙ take_at (answered x list) (drop (length (answered x list)) space) (9 * (length list / 3)) nine in
    let count : length (answered x list) / 9 ≡ length list / 3 = omega (arith, nine) in
    record {
      count = sym (length-page x list a);
      answers = bytes;
      text = rw (cut, count, ← page-accepted x list a) at text;
    }

-- ---- the header at the front, the rest of the buffer handed on for the lines
pub page_handed_on : (n : ℕ) (bytes out text ys : List ℕ) → 9 * n ≤ length bytes → text ≡ header →
    let mid = text ++ drop 28 out in
    ys ≡ lines n bytes ++ drop (27 * n) (take (length mid - 28) (drop 28 mid)) →
    handed 28 mid ys ≡ over (header ++ lines n bytes) out
page_handed_on n bytes out text ys enough front lent =
    let long : 28 + 27 * n ≡ length (header ++ lines n bytes) =
    omega (arith, length-append header (lines n bytes), length-header, length-lines n bytes enough) in
    let mid = text ++ drop 28 out in
    handed_on 28 (27 * n) header (lines n bytes) out mid ys length-header (ap (λ (t : List ℕ). t ++ drop 28 out) front) lent
    ∙ ap (λ (k : ℕ). (header ++ lines n bytes) ++ drop k out) long
