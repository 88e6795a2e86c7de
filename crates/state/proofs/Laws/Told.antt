-- From what a function did to what it promises of a whole event. Assumes nothing.
use mathlib.Core.Path.{◌≡◌, refl, ap, sym, subst, ◌∙◌}
use mathlib.Core.List.{List, ◌∷◌}
use mathlib.Core.Bool.{false}
use Rattle.std.specs.Prelude.{Result, Ok}
use Rattle.std.specs.Result.{IsErrAnd}
use Rattle.refusals.specs.declared.refusal.Refusal.{Refusal}
use Rattle.refusals.specs.Numbers.{number}
use Rattle.refusals.proofs.Refused.{no_zero, passed_on}
use Rattle.translation.specs.Bits.{weight}
use Rattle.machine.specs.State.{lift}
use Rattle.machine.specs.Devices.{pinned}
use Prim.Native.Nat.{ℕ}
use Rattle.machine.specs.DataPort.{write_data}
use Rattle.machine.specs.Commands.{write_command, pulse_of}
use Rattle.machine.specs.Events.{Event, event, value, refusal, accept, step, lines, byte_read, old_mark, pulse}
use Rattle.machine.specs.Kept.{Kept}
use Rattle.state.specs.View.{view, public}
use Rattle.state.specs.Changed.{Changed}
use Rattle.state.specs.Told.{own, EventTold}
use Rattle.state.specs.declared.told.Told.{Told}
use Rattle.machine.proofs.Laws.Events.{value-byte, step-refused, step-accepted, reply-refused, reply-accepted, accept_data, accept-command}
use Rattle.machine.proofs.Laws.Kept.{keeps}
use Rattle.state.proofs.Laws.Changed.{by_rule, untouched}

-- ---- a refused event, whose check's answer is passed on
pub told_refused : {s : List ℕ} {e : Event} (x : Refusal) (r : Result Told Refusal) → IsErrAnd r (λ y. y ≡ x) → number x ≡ refusal (public s) e →
    EventTold s e s (own r)
told_refused {s} {e} x r is checked =
    let refused : refusal (public s) e ≡ 0 → ⊥ = λ a. no_zero x (checked ∙ a) in
    rw (passed_on r is)
    record {
      change = untouched (sym (step-refused (view s) e refused));
      answered = sym (reply-refused (public s) e (step (view s) e).plain (number x) checked (no_zero x));
      unchanged = λ _. refl;
      kept = λ k. k;
    }

-- ---- an accepted one
pub told_accepted : {s s' : List ℕ} {e : Event} (t : Told) → 0 ≡ refusal (public s) e →
    (t.read ≡ byte_read (public s) e.kind) × (weight 1 t.old ≡ old_mark (public s) e.kind) × (t.pulse ≡ pulse (public s) e) →
    Changed (λ m. accept m e) s s' →
    EventTold s e s' (own (Ok t))
told_accepted {s} {s'} {e} t checked (is_read, is_old, is_pulse) done =
    let free : refusal (public s) e ≡ 0 = sym checked in
    let change : Changed (λ m. step m e) s s' = by_rule done (sym (step-accepted (view s) e free)) in
    record {
      change = change;
      answered =
          (λ i. 0 ∷ is_read i ∷ is_old i ∷ lines (change.machine i).plain (is_pulse i))
          ∙ sym (reply-accepted (public s) e (step (view s) e).plain free);
      unchanged = λ stands. absurd (stands free);
      kept = λ k. subst Kept (sym change.machine) (keeps (view s) e k);
    }

-- one that reads and pulses nothing
abbrev pub Quiet : Told → Type 0
Quiet t = (t.read ≡ 0) × ((t.old ≡ false) × (t.pulse ≡ 0))

pub told_quiet : {s s' : List ℕ} {e : Event} (t : Told) → 0 ≡ refusal (public s) e → Quiet t →
    (0 ≡ byte_read (public s) e.kind) × (0 ≡ old_mark (public s) e.kind) × (0 ≡ pulse (public s) e) →
    Changed (λ m. accept m e) s s' →
    EventTold s e s' (own (Ok t))
told_quiet t checked (is_read, (is_old, is_pulse)) (no_read, no_old, no_pulse) done =
    told_accepted t checked (is_read ∙ no_read, ap (weight 1) is_old ∙ no_old, is_pulse ∙ no_pulse) done

-- ---- where an accepted one and a refused one meet before the answer
pub met_accepted : {s s' after : List ℕ} {e : Event} (t : Told) → 0 ≡ refusal (public s) e → Quiet t →
    (0 ≡ byte_read (public s) e.kind) × (0 ≡ old_mark (public s) e.kind) × (0 ≡ pulse (public s) e) →
    Changed (λ m. accept m e) s s' → after ≡ s' →
    EventTold s e after (own (Ok t))
met_accepted {s} {e = e} t checked quiet noted done same =
    subst (λ (u : List ℕ). EventTold s e u (own (Ok t))) (sym same) (told_quiet t checked quiet noted done)

pub met_refused : {s after : List ℕ} {e : Event} (x : Refusal) (r : Result Told Refusal) → IsErrAnd r (λ y. y ≡ x) → number x ≡ refusal (public s) e → after ≡ s →
    EventTold s e after (own r)
met_refused {s} {e = e} x r is checked same = subst (λ (u : List ℕ). EventTold s e u (own r)) (sym same) (told_refused x r is checked)

-- ---- a write, whose value is its low byte
module _ {s s' : List ℕ} {low high : ℕ} (t : Told) where
  pub told_data : 0 ≡ refusal (public s) (event 1 low high) → Quiet t → Changed (write_data low) s s' → EventTold s (event 1 low high) s' (own (Ok t))
  told_data checked quiet done =
      let e = event 1 low high in
      let byte : value e ≡ low = value-byte (public s) e (sym checked) refl in
      told_quiet t checked quiet (refl, refl, refl)
      (by_rule done (sym (accept_data (view s) e refl ∙ ap (λ (v : ℕ). write_data v (view s)) byte)))

  pub told_command : 0 ≡ refusal (public s) (event 3 low high) → (t.read ≡ 0) × (t.old ≡ false) × (t.pulse ≡ pulse_of (public s).settings low) →
      Changed (write_command low) s s' →
      EventTold s (event 3 low high) s' (own (Ok t))
  told_command checked (is_read, is_old, is_pulse) done =
      let e = event 3 low high in
      let byte : value e ≡ low = value-byte (public s) e (sym checked) refl in
      told_accepted t checked (is_read, ap (weight 1) is_old, is_pulse ∙ ap (pulse_of (public s).settings) (sym byte))
      (by_rule done (sym (accept-command (view s) e refl ∙ ap (λ (v : ℕ). write_command v (view s)) byte)))

  pub told_pins : 0 ≡ refusal (public s) (event 8 low high) → Quiet t → Changed (lift (pinned low)) s s' → EventTold s (event 8 low high) s' (own (Ok t))
  unfolding accept
  told_pins checked quiet done =
      let e = event 8 low high in
      let byte : value e ≡ low = value-byte (public s) e (sym checked) refl in
      told_quiet t checked quiet (refl, refl, refl) (by_rule done (ap (λ (v : ℕ). lift (pinned v) (view s)) (sym byte)))
