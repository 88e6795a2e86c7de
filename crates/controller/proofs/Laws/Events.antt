-- From what an event told to its nine bytes. Assumes nothing.
use Prim.Native.Nat.{ℕ, ◌+◌, ◌/◌, ◌%◌}
use mathlib.Core.Path.{◌≡◌, refl, ap, sym, subst, ◌∙◌}
use mathlib.Core.Bool.{cond, ◌&&◌, Bool, true, false, and-true, and-false}
use mathlib.Core.List.{List, [], ◌∷◌}
use lib.Dec.{eqb}
use borrow.Author.Tests.{ne_eqb}
use lib.ListN.{get_or}
use mir.Val.{bool_byte}
use Rattle.std.specs.Prelude.{Result, Ok, Err}
use Rattle.std.specs.Result.{IsErrAnd}
use Rattle.refusals.specs.declared.refusal.Refusal.{Refusal}
use Rattle.refusals.specs.Numbers.{number}
use Rattle.refusals.proofs.Refused.{no_zero, passed_on}
use Rattle.machine.specs.State.{Public}
use Rattle.translation.specs.Bits.{weight}
use Rattle.machine.specs.Lines.{status, output_port, input_full}
use Rattle.machine.specs.Events.{Event, event, lines, refusal, sent_frame}
use Rattle.state.specs.View.{public}
use Rattle.state.specs.Told.{Own, own, EventTold}
use Rattle.state.specs.declared.told.Told.{Told}
use Rattle.machine.proofs.Laws.Events.{accept-status}
use Rattle.state.proofs.Laws.Changed.{untouched}
use Rattle.state.proofs.Laws.Told.{Quiet, told_accepted, told_refused}
use Rattle.controller.specs.Steps.{EventReplied, with_status}

-- ---- the lines in PS/2 mode
-- from the status without IBF
pub shown : (p : Public) (n : ℕ) {more port pulsed frame low high : ℕ} {full : Bool} → n + weight 2 (input_full p) ≡ status p → port ≡ output_port p →
    more ≡ weight 2 full → full ≡ input_full p → frame ≡ sent_frame p → low ≡ frame % 256 → high ≡ frame / 256 →
    ((n + more) ∷ port ∷ pulsed ∷ p.sending.to ∷ low ∷ high ∷ []) ≡ lines p pulsed
unfolding lines
shown p n {more} is_status is_port is_more is_full is_frame is_low is_high =
    let sum : n + more ≡ status p = ap (λ (m : ℕ). n + m) (is_more ∙ ap (weight 2) is_full) ∙ is_status in
    rw (is_low, is_high, is_frame, is_port, sum) refl

-- ---- with_status
-- an event that is no read of 64h
pub told_other : {s s' : List ℕ} {t : Own} {low high k kind : ℕ} → EventTold s (event k low high) s' t → k ≡ kind → eqb k 2 ≡ false →
    EventTold s (event kind low high) s' (with_status kind (public s') t)
told_other {s} {s'} {t} {low} {high} {k} {kind} told same other =
    subst (λ (j : ℕ). EventTold s (event j low high) s' (with_status j (public s') t)) same
    (rw other (record { change = told.change; answered = told.answered; unchanged = told.unchanged; kept = told.kept }))

-- a read of 64h
pub told_status : {s : List ℕ} {low high : ℕ} (t : Told) → 0 ≡ refusal (public s) (event 2 low high) → Quiet t →
    EventTold s (event 2 low high) s (with_status 2 (public s) (own (Ok t)))
told_status {s} t checked (is_read, (is_old, is_pulse)) =
    told_accepted (record { read = status (public s); old = t.old; pulse = t.pulse }) checked (refl, ap (weight 1) is_old, is_pulse)
    (untouched (sym (accept-status _ _ refl)))

-- a refused event, with or without the status
pub refused_status : {s : List ℕ} {e : Event} (kind : ℕ) (x : Refusal) (r : Result Told Refusal) → IsErrAnd r (λ y. y ≡ x) → number x ≡ refusal (public s) e →
    EventTold s e s (with_status kind (public s) (own r))
refused_status {s} {e} kind x r is checked =
    let told = told_refused x r is checked in
    let same : with_status kind (public s) (own r) ≡ own r = rw (passed_on r is, ne_eqb (number x) 0 (no_zero x), and-false) refl in
    subst (λ (t : Own). EventTold s e s t) (sym same) told

-- ---- EventReplied
byte_weight : (b : Bool) → bool_byte b ≡ weight 1 b
byte_weight true = refl
byte_weight false = refl

module _ {s s' : List ℕ} {e : Event} {t : Own} {l : List ℕ} (told : EventTold s e s' t) (shown : l ≡ lines (public s') t.pulse) where
  pub replied : {n read old : ℕ} → n ≡ t.refusal → read ≡ t.read → old ≡ t.old →
      EventReplied s e s' (n ∷ read ∷ old ∷ get_or l 0 0 ∷ get_or l 1 0 ∷ get_or l 2 0 ∷ get_or l 3 0 ∷ get_or l 4 0 ∷ get_or l 5 0 ∷ [])
  unfolding lines
  replied is_number is_read is_old =
      record {
        change = told.change;
        answered = rw (is_number, is_read, is_old, shown) refl ∙ told.answered;
        unchanged = told.unchanged;
        kept = told.kept;
      }

-- the byte read is the status behind an accepted read of 64h
module _ {s s' : List ℕ} {e : Event} {a : Own} {l : List ℕ} (kind number : ℕ) (t : Told) (told : EventTold s e s' (with_status kind (public s') a))
    (same : a ≡ record { refusal = number; read = t.read; old = weight 1 t.old; pulse = t.pulse }) (shown : l ≡ lines (public s') t.pulse) where
  pub replied_event : {read : ℕ} → read ≡ cond (eqb kind 2 && eqb number 0) (get_or l 0 0) t.read →
      EventReplied s e s' (number ∷ read ∷ bool_byte t.old ∷ get_or l 0 0 ∷ get_or l 1 0 ∷ get_or l 2 0 ∷ get_or l 3 0 ∷ get_or l 4 0 ∷ get_or l 5 0 ∷ [])
  unfolding lines
  replied_event reads =
      replied (subst (λ (b : Own). EventTold s e s' (with_status kind (public s') b)) same told) shown refl
      (reads ∙ ap (λ (xs : List ℕ). cond (eqb kind 2 && eqb number 0) (get_or xs 0 0) t.read) shown) (byte_weight t.old)

-- an accepted event
pub replied_accepted : {s s' : List ℕ} {e : Event} {l : List ℕ} {read : ℕ} (kind : ℕ) (t : Told) (r : Result Told Refusal) →
    EventTold s e s' (with_status kind (public s') (own r)) → r ≡ Ok t → l ≡ lines (public s') t.pulse → read ≡ cond (eqb kind 2) (get_or l 0 0) t.read →
    EventReplied s e s' (0 ∷ read ∷ bool_byte t.old ∷ get_or l 0 0 ∷ get_or l 1 0 ∷ get_or l 2 0 ∷ get_or l 3 0 ∷ get_or l 4 0 ∷ get_or l 5 0 ∷ [])
replied_accepted {l = l} kind t r told is shown reads =
    replied_event kind 0 t told (ap own is) shown (reads ∙ ap (λ (b : Bool). cond b (get_or l 0 0) t.read) (sym (and-true (eqb kind 2))))

-- a refused event: what it tells is the number of its check
pub replied_refused : {s s' : List ℕ} {e : Event} {l : List ℕ} {n : ℕ} (kind : ℕ) (x : Refusal) (r : Result Told Refusal) →
    EventTold s e s' (with_status kind (public s') (own r)) → r ≡ Err x → n ≡ number x → l ≡ lines (public s') 0 →
    EventReplied s e s' (n ∷ 0 ∷ 0 ∷ get_or l 0 0 ∷ get_or l 1 0 ∷ get_or l 2 0 ∷ get_or l 3 0 ∷ get_or l 4 0 ∷ get_or l 5 0 ∷ [])
replied_refused {s} {s'} {e} kind x r told is is_number shown =
    let same : with_status kind (public s') (own r) ≡ own (Err x) = rw (is, ne_eqb (number x) 0 (no_zero x), and-false) refl in
    replied (subst (λ (t : Own). EventTold s e s' t) same told) shown is_number refl refl
