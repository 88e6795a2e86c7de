-- From single events to the run of a list, and to the promises of the calls. Assumes nothing.
use Prim.Native.Nat.{ℕ, ◌+◌, ◌*◌, ◌-◌, ◌≤◌, ◌<◌, min}
use mathlib.Core.Path.{◌≡◌, ap, ap₂, sym, subst, ◌∙◌}
use mathlib.Core.List.{List, [], ◌++◌, append_assoc, append-nil}
use mathlib.Core.Bool.{true, false, ◌&&◌}
use native.Mathlib.Omega.{arith}
use lib.Dec.{leb, ltb}
use borrow.Author.Tests.{leb-true, leb-false, ltb-true, ltb-false}
use Rattle.translation.proofs.Tests.{split, and_true}
use lib.ListN.{length, take, drop, length-drop, length-append, length-take, take-append-drop}
use lib.Seq.{take_at, drop_at, drop-drop, take-append-add}
use Rattle.machine.specs.Settings.{Settings}
use Rattle.machine.specs.State.{Machine, fresh}
use Rattle.machine.specs.Events.{Event, step, answer}
use Rattle.machine.specs.Run.{events, first, after, answers, filled, fitting, list_refusal}
use Rattle.machine.specs.Kept.{Kept}
use Rattle.state.specs.View.{view, state_of}
use Rattle.std.proofs.lemmas.List.{nil_from_length}
use Rattle.state.specs.Changed.{Changed}
use Rattle.state.proofs.Laws.Changed.{chain, by_rule, untouched}
use Rattle.translation.proofs.Lists.{take_rest, handed, handed_back}
use Rattle.machine.proofs.Laws.Run.{length-answer, length-answers, after_kept, after-append, filled_none, filled_more, filled-append}
use Rattle.machine.proofs.Laws.Run.{fitting_short, fitting_tight, fitting_more, fitting_all, length_piece, fitting_piece, fitting-split, fitting_cut}
use Rattle.controller.specs.Promises.{FittingRun, ListRun, FreshRun}
use Rattle.controller.specs.Steps.{EventWritten}

-- ---- FittingRun: a change by the events that fit, and the buffer
fitting-run : {s s' list space space' : List ℕ} → Changed (λ m. after m (fitting list space)) s s' → space' ≡ filled (view s) (fitting list space) space →
    FittingRun s list space s' space'
fitting-run {s} {s'} {list} {space} change buffer =
    record {
      machine = change.machine;
      bytes = λ b. change.bytes b ∙ ap state_of change.machine;
      buffer = buffer;
      kept = λ k. subst Kept (sym change.machine) (after_kept (view s) (fitting list space) k);
    }

run-change : {s s' list space space' : List ℕ} → FittingRun s list space s' space' → Changed (λ m. after m (fitting list space)) s s'
run-change run = record { machine = run.machine; bytes = λ b. run.bytes b ∙ ap state_of (sym run.machine) }

-- nothing fits
run_none : {s list space : List ℕ} → fitting list space ≡ [] → FittingRun s list space s space
unfolding after
run_none {s} {list} {space} none = fitting-run (untouched (rw none)) (rw none (sym (filled_none (view s) space)))

-- one event, and what the rest makes of the buffer behind its answer
rest_of : {s n mid : List ℕ} {e : Event} (space : List ℕ) → EventWritten s e space n mid → drop 9 mid ≡ drop 9 space
rest_of {s} {e = e} space one = ap (drop 9) one.buffer ∙ drop_at (answer (view s) e) (drop 9 space) 9 (length-answer (view s) e)

module _ {s n list space mid : List ℕ} (h : 3 ≤ length list) (room : 9 ≤ length space) (one : EventWritten s (first list) space n mid) where
  run_more : {r ys : List ℕ} → FittingRun n (drop 3 list) (drop 9 mid) r ys → FittingRun s list space r (take 9 mid ++ ys)
  unfolding after
  run_more {r} {ys} more =
      let e = first list in
      let m = view s in
      let rest = rest_of space one in
      let es = fitting (drop 3 list) (drop 9 space) in
      let all = fitting_more list space h room in
      let same : fitting (drop 3 list) (drop 9 mid) ≡ es = ap (fitting (drop 3 list)) rest in
      fitting-run
      (by_rule (chain one.change (run-change more)) (ap (after (step m e)) same ∙ ap (after m) (sym all)))
      (ap₂ (λ (a b : List ℕ). a ++ b) (ap (take 9) one.buffer ∙ take_at (answer m e) (drop 9 space) 9 (length-answer m e))
      (more.buffer ∙ ap (λ (fs : List Event). filled (view n) fs (drop 9 mid)) same ∙ ap (filled (view n) es) rest
      ∙ ap (λ (k : Machine). filled k es (drop 9 space)) one.change.machine)
      ∙ filled_more m e es space ∙ ap (λ (fs : List Event). filled m fs space) (sym all))

  -- the rest of both, as it is lent to the next event
  pub run_rest : {r ys : List ℕ} → FittingRun n (take (length list - 3) (drop 3 list)) (take (length mid - 9) (drop 9 mid)) r ys →
      FittingRun s list space r (handed 9 mid ys)
  run_rest {r} {ys} lent =
      let more : FittingRun n (drop 3 list) (drop 9 mid) r ys = rw (take_rest 3 list, take_rest 9 mid) at lent in
      rw (handed_back 9 mid ys) (run_more more)

  -- no event stands behind it
  pub run_last : length list < 6 → FittingRun s list space n mid
  run_last short =
      subst (λ (d : List ℕ). FittingRun s list space n d) (take-append-drop 9 mid)
      (run_more (run_none (fitting_short (drop 3 list) (drop 9 mid) (simp length-drop (omega arith)))))

-- both tests of a level passed
pub both_le : {a b c d : ℕ} → (leb a b && leb c d) ≡ true → (a ≤ b) × (c ≤ d)
both_le {a} {b} {c} {d} passed =
    let both = and_true (leb a b) (leb c d) passed in
    (leb-true a b both.0, leb-true c d both.1)

-- no event is left, or no room for its answer
pub run-over : {s list space : List ℕ} → (leb 3 (length list) && leb 9 (length space)) ≡ false → FittingRun s list space s space
run-over {s} {list} {space} ended =
    run_none
    (split (leb 3 (length list))
    (λ more.
    let tight : leb 9 (length space) ≡ false = simp more at ended in
    fitting_tight list space (leb-false 9 (length space) tight))
    (λ short. fitting_short list space (leb-false 3 (length list) short)))

-- a run goes by the events that fit
run-same : {s r list list' space ys : List ℕ} → fitting list space ≡ fitting list' space → FittingRun s list space r ys → FittingRun s list' space r ys
run-same {s} {space = space} same run =
    fitting-run (by_rule (run-change run) (ap (after (view s)) same)) (run.buffer ∙ ap (λ (es : List Event). filled (view s) es space) same)

-- a piece of n events that all have room, and what the rest makes of the buffer behind their answers
run_pieces : (n : ℕ) {s t r list space mid ys : List ℕ} → 3 * n ≤ length list → 9 * n ≤ length space →
    FittingRun s (take (3 * n) list) space t mid →
    FittingRun t (drop (3 * n) list) (drop (9 * n) mid) r ys →
    FittingRun s list space r (take (9 * n) mid ++ ys)
unfolding filled
run_pieces n {s} {t} {r} {list} {space} {mid} {ys} some room one more =
    let m = view s in
    let es = events (take (3 * n) list) in
    let count = length_piece n list space some in
    let long : length (answers m es) ≡ 9 * n = length-answers m es ∙ omega (arith, count) in
    let fits = fitting_piece n list space some room in
    let told : mid ≡ answers m es ++ drop (9 * n) space =
    one.buffer ∙ ap (λ (fs : List Event). filled m fs space) fits ∙ ap (λ (k : ℕ). answers m es ++ drop (9 * k) space) count in
    let rest : drop (9 * n) mid ≡ drop (9 * n) space = ap (drop (9 * n)) told ∙ drop_at (answers m es) (drop (9 * n) space) (9 * n) long in
    let fs = fitting (drop (3 * n) list) (drop (9 * n) space) in
    let all = fitting-split n list space some room in
    let same : fitting (drop (3 * n) list) (drop (9 * n) mid) ≡ fs = ap (fitting (drop (3 * n) list)) rest in
    let piece : Changed (λ k. after k es) s t = by_rule (run-change one) (ap (after m) fits) in
    fitting-run
    (by_rule (chain piece (run-change more)) (ap (after (after m es)) same ∙ sym (after-append m es fs) ∙ ap (after m) (sym all)))
    (ap₂ (λ (a b : List ℕ). a ++ b) (ap (take (9 * n)) told ∙ take_at (answers m es) (drop (9 * n) space) (9 * n) long)
    (more.buffer ∙ ap (λ (gs : List Event). filled (view t) gs (drop (9 * n) mid)) same ∙ ap (filled (view t) fs) rest
    ∙ ap (λ (k : Machine). filled k fs (drop (9 * n) space)) piece.machine)
    ∙ ap (λ (k : ℕ). answers m es ++ filled (after m es) fs (drop (9 * k) space)) (sym count)
    ∙ sym (filled-append m es fs space) ∙ ap (λ (gs : List Event). filled m gs space) (sym all))

-- ---- ListRun
pub list_run : {s list space s' space' : List ℕ} {n : ℕ} → n ≡ list_refusal list space → n ≡ 0 → FittingRun s list space s' space' →
    ListRun s list space 0 s' space'
list_run {s} {list} {space} number none run =
    let a : list_refusal list space ≡ 0 = sym number ∙ none in
    let all = fitting_all list space a in
    record {
      refusal = sym a;
      refused = λ stands. absurd (stands a);
      machine = λ _. run.machine ∙ ap (after (view s)) all;
      bytes = λ _ b. run.bytes b ∙ ap (λ (es : List Event). state_of (after (view s) es)) all;
      buffer = λ _. run.buffer ∙ ap (λ (es : List Event). filled (view s) es space) all;
      kept = run.kept;
    }

-- ---- FreshRun
pub fresh-run : {x : Settings} {s list space s' space' : List ℕ} {n : ℕ} → view s ≡ fresh x → ListRun s list space n s' space' →
    FreshRun x list space space' n
fresh-run {x} {s} {list} {space} start run =
    record {
      refusal = run.refusal;
      refused = λ stands. (run.refused stands).1;
      answered = λ a. run.buffer a ∙ ap (λ (m : Machine). filled m (events list) space) start;
    }

-- ---- a list in pieces of 500 events
-- The run so far, with `rest` of the list still to come and `told` bytes of room behind it: whatever the run of the rest makes of the buffer from
-- there on, it makes the run of the whole.
pub record Pieced (s₀ list space₀ s space rest : List ℕ) (told : ℕ) : Type 0 where
  pub whole : (r ys : List ℕ) → FittingRun s rest (drop told space) r ys → FittingRun s₀ list space₀ r (take told space ++ ys)

pub pieced_start : {s list space : List ℕ} → Pieced s list space s space list 0
pieced_start = record { whole = λ r ys run. run }

-- nothing is left that fits
pub pieced-end : {s₀ list space₀ s space rest : List ℕ} {told : ℕ} → Pieced s₀ list space₀ s space rest told → fitting rest (drop told space) ≡ [] →
    FittingRun s₀ list space₀ s space
pieced-end {s₀} {list} {space₀} {s} {space} {told = told} so_far none =
    subst (λ (d : List ℕ). FittingRun s₀ list space₀ s d) (take-append-drop told space) (so_far.whole s (drop told space) (run_none none))

-- so the whole is run, and what is left adds nothing
pieced_over : {s₀ list space₀ s space rest : List ℕ} {told : ℕ} → FittingRun s₀ list space₀ s space → fitting rest (drop told space) ≡ [] →
    Pieced s₀ list space₀ s space rest told
unfolding after
pieced_over {s₀} {list} {space₀} {s} {space} {told = told} ran none =
    let es = fitting list space₀ in
    record {
      whole = λ r ys run.
          fitting-run (by_rule (chain (run-change ran) (run-change run)) (ap (after (after (view s₀) es)) none))
          (ap (λ (d : List ℕ). take told space ++ d)
          (run.buffer ∙ ap (λ (fs : List Event). filled (view s) fs (drop told space)) none ∙ filled_none (view s) (drop told space))
          ∙ take-append-drop told space ∙ ran.buffer);
    }

front_long : (told : ℕ) (space : List ℕ) → told ≤ length space → length (take told space) ≡ told
front_long told space inside = simp length-take (omega (arith, inside))

as_long : (told : ℕ) (space ys : List ℕ) → told ≤ length space → length ys ≡ length (take (length space - told) (drop told space)) →
    length (handed told space ys) ≡ length space
as_long told space ys inside kept =
    let long : length ys ≡ length space - told = kept ∙ ap length (take_rest told space) ∙ length-drop told space in
    ap length (handed_back told space ys) ∙ length-append (take told space) ys ∙ omega (arith, front_long told space inside, long, inside)

module _ {s₀ list space₀ s space piece rest : List ℕ} {told : ℕ} (so_far : Pieced s₀ list space₀ s space (piece ++ rest) told) (inside : told ≤ length space)
    {t ys : List ℕ} (ran : FittingRun s piece (drop told space) t ys) where
  -- a whole piece that has room
  pieced_more : length piece ≡ 1500 → 4500 ≤ length space - told → Pieced s₀ list space₀ t (handed told space ys) rest (told + 4500)
  pieced_more whole room =
      let front = front_long told space inside in
      let back = handed_back told space ys in
      let later : drop (told + 4500) (handed told space ys) ≡ drop 4500 ys =
      ap (drop (told + 4500)) back
      ∙ sym (drop-drop 4500 told (take told space ++ ys)) ∙ ap (drop 4500) (drop_at (take told space) ys told front) in
      let taken : take (told + 4500) (handed told space ys) ≡ take told space ++ take 4500 ys =
      ap (take (told + 4500)) back
      ∙ ap (λ (n : ℕ). take (n + 4500) (take told space ++ ys)) (sym front) ∙ take-append-add (take told space) ys 4500 in
      let first_part : FittingRun s (take 1500 (piece ++ rest)) (drop told space) t ys =
      subst (λ (d : List ℕ). FittingRun s d (drop told space) t ys) (sym (take_at piece rest 1500 whole)) ran in
      record {
        whole = λ r zs run.
            let behind : FittingRun t (drop 1500 (piece ++ rest)) (drop 4500 ys) r zs =
            subst (λ (d : List ℕ). FittingRun t (drop 1500 (piece ++ rest)) d r zs) later
            (subst (λ (d : List ℕ). FittingRun t d (drop (told + 4500) (handed told space ys)) r zs) (sym (drop_at piece rest 1500 whole)) run) in
            subst (λ (d : List ℕ). FittingRun s₀ list space₀ r d)
            (sym (append_assoc (take told space) (take 4500 ys) zs) ∙ ap (λ (d : List ℕ). d ++ zs) (sym taken))
            (so_far.whole r (take 4500 ys ++ zs)
            (run_pieces 500 (simp length-append (omega (arith, whole))) (simp length-drop (omega (arith, room))) first_part behind));
      }

  -- all that there is, or more than there is room for
  pieced_last : fitting piece (drop told space) ≡ fitting (piece ++ rest) (drop told space) → fitting rest (drop (told + 4500) (handed told space ys)) ≡ [] →
      Pieced s₀ list space₀ t (handed told space ys) rest (told + 4500)
  pieced_last all none =
      pieced_over
      (subst (λ (d : List ℕ). FittingRun s₀ list space₀ t d) (sym (handed_back told space ys)) (so_far.whole t ys (run-same all ran)))
      none

-- one piece more, its parts as the loop lends them
pub pieced-next : {s₀ list space₀ s space piece rest t ys : List ℕ} {told next : ℕ} → told + 4500 ≡ next →
    Pieced s₀ list space₀ s space (piece ++ rest) told →
    length piece ≡ min 1500 (length (piece ++ rest)) →
    told ≤ length space →
    length ys ≡ length (take (length space - told) (drop told space)) →
    FittingRun s piece (take (length space - told) (drop told space)) t ys →
    Pieced s₀ list space₀ t (handed told space ys) rest next
pieced-next {s₀} {list} {space₀} {s} {space} {piece} {rest} {t} {ys} {told} stop so_far long inside kept lent =
    let ran : FittingRun s piece (drop told space) t ys = subst (λ (d : List ℕ). FittingRun s piece d t ys) (take_rest told space) lent in
    let both = long ∙ ap (min 1500) (length-append piece rest) in
    let same = as_long told space ys inside kept in
    subst (λ (n : ℕ). Pieced s₀ list space₀ t (handed told space ys) rest n) stop
    (split (ltb (length piece) 1500)
    (λ few.
    let short = ltb-true (length piece) 1500 few in
    let none : length rest ≡ 0 = omega (arith, short, both) in
    let all : piece ≡ piece ++ rest = sym (append-nil piece) ∙ ap (λ (l : List ℕ). piece ++ l) (sym (nil_from_length rest none)) in
    pieced_last so_far inside ran (ap (λ (l : List ℕ). fitting l (drop told space)) all)
    (fitting_short rest (drop (told + 4500) (handed told space ys)) (omega (arith, none))))
    (λ many.
    let whole : length piece ≡ 1500 = omega (arith, ltb-false (length piece) 1500 many, both) in
    split (ltb (length space - told) 4500)
    (λ tight.
    let little = ltb-true (length space - told) 4500 tight in
    pieced_last so_far inside ran
    (ap (λ (l : List ℕ). fitting l (drop told space)) (sym (take_at piece rest 1500 whole))
    ∙ fitting_cut 500 (piece ++ rest) (drop told space) (simp length-append (omega (arith, whole))) (simp length-drop (omega (arith, little))))
    (fitting_tight rest (drop (told + 4500) (handed told space ys)) (simp (length-drop, same) (omega (arith, little)))))
    (λ room. pieced_more so_far inside ran whole (ltb-false (length space - told) 4500 room))))
