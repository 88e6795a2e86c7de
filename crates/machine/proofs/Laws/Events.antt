-- What an accepted event shows of the machine, and the machine after each kind of event.
-- Assumes nothing.
use Prim.Native.Nat.{ℕ, ◌≤◌, ◌<◌}
use native.Mathlib.Omega.{arith}
use mathlib.Core.List.{◌∷◌}
use mathlib.Core.Path.{◌≡◌, refl, sym, ◌∙◌}
use mathlib.Core.Bool.{Bool, true, false, not, ◌&&◌, ◌||◌}
use lib.Dec.{eqb, ltb}
use borrow.Author.Tests.{eqb-true, eqb-false, lt-ltb, le-ltb, ltb-false, ne_eqb, not-true, not-false}
use Rattle.translation.specs.Frames.{check}
use Rattle.machine.specs.State.{Public, Machine, lift}
use Rattle.machine.specs.Lines.{input_full}
use Rattle.machine.specs.DataPort.{write_data}
use Rattle.machine.specs.Commands.{write_command}
use Rattle.machine.specs.Devices.{keyboard_frame, mouse_frame, taken, timed_out, pinned}
use Rattle.translation.specs.Bits.{word}
use Rattle.machine.specs.Events.{Event, event, value, is_write, is_frame, ends_sending, limit, from_no_mouse, device_off, refusal, state_refusal}
use Rattle.machine.specs.Events.{emptied, accept, step, reply, refused_reply, byte_read, old_mark, pulse, lines}
use Rattle.machine.proofs.Laws.Cond.{cond-holds, cond_both, cond_zero, and_false, or_false}

-- ---- refusal
-- no check stands
pub record Accepted (p : Public) (e : Event) : Type 0 where
  pub kind : ltb 8 e.kind ≡ false
  pub high : ltb (limit e.kind) (value e) ≡ false
  pub absent : from_no_mouse p e.kind ≡ false
  pub busy : (is_write e.kind && input_full p) ≡ false
  pub shut : (is_write e.kind && p.locked) ≡ false
  pub early : (is_frame e.kind && (device_off p e.kind || (p.output.full || input_full p))) ≡ false
  pub idle : (ends_sending e.kind && not (input_full p)) ≡ false

pub accepted : (p : Public) (e : Event) → refusal p e ≡ 0 → Accepted p e
unfolding refusal state_refusal
accepted p e a =
    let (kind, a₂) = cond_zero _ 0 _ a in
    let (high, a₃) = cond_zero _ 1 _ a₂ in
    let (absent, a₄) = cond_zero _ 11 _ a₃ in
    let (busy, a₅) = cond_zero _ 2 _ a₄ in
    let (shut, a₆) = cond_zero _ 3 _ a₅ in
    let (early, a₇) = cond_zero _ 4 _ a₆ in
    record { kind = kind; high = high; absent = absent; busy = busy; shut = shut; early = early; idle = (cond_zero _ 5 _ a₇).0 }

input_full_false : (p : Public) → input_full p ≡ false → p.sending.to ≡ 0
input_full_false p h = eqb-true _ _ (not-false _ h)

module _ (p : Public) (e : Event) (a : refusal p e ≡ 0) where
  pub accepted-kind : e.kind ≤ 8
  accepted-kind = ltb-false _ _ (accepted p e a).kind

  pub accepted-value : value e ≤ limit e.kind
  accepted-value = ltb-false _ _ (accepted p e a).high

  pub accepted-byte : (is_write e.kind || eqb e.kind 8) ≡ true → value e ≤ 255
  accepted-byte w = simp w at accepted-value

  -- a value of one byte is the low byte
  pub value-byte : (is_write e.kind || eqb e.kind 8) ≡ true → value e ≡ e.low
  value-byte w = omega (arith, accepted-byte w)

  pub accepted_write : is_write e.kind ≡ true → (p.sending.to ≡ 0) × (p.locked ≡ false)
  accepted_write w =
      (input_full_false p (and_false _ _ (accepted p e a).busy w), and_false _ _ (accepted p e a).shut w)

  pub accepted-frame : is_frame e.kind ≡ true → (device_off p e.kind ≡ false) × (p.output.full ≡ false) × (p.sending.to ≡ 0)
  accepted-frame f =
      let (on, rest) = or_false _ _ (and_false _ _ (accepted p e a).early f) in
      let (empty, free) = or_false _ _ rest in
      (on, empty, input_full_false p free)

  pub accepted_end : ends_sending e.kind ≡ true → p.sending.to ≡ 0 → ⊥
  accepted_end s = eqb-false _ _ (not-true _ (not-false _ (and_false _ _ (accepted p e a).idle s)))

-- a kind above 8
pub refusal-kind : (p : Public) (e : Event) → 8 < e.kind → refusal p e ≡ 1
unfolding refusal
refusal-kind p e h = simp (lt-ltb 8 e.kind h)

-- a kind that is known
pub refusal-at : (p : Public) (kind low high : ℕ) {k n : ℕ} → n ≡ refusal p (event k low high) → kind ≡ k → n ≡ refusal p (event kind low high)
refusal-at p kind low high number same = rw same number

-- ---- refusal, by the value
pub refusal-high : (p : Public) (e : Event) → ltb 8 e.kind ≡ false → limit e.kind < value e → 2 ≡ refusal p e
unfolding refusal
refusal-high p e kind h = simp (kind, lt-ltb (limit e.kind) (value e) h)

pub refusal_fits : (p : Public) (e : Event) {n : ℕ} → ltb 8 e.kind ≡ false → value e ≤ limit e.kind → n ≡ state_refusal p e.kind → n ≡ refusal p e
unfolding refusal
refusal_fits p e kind h same = simp (kind, le-ltb (limit e.kind) (value e) h, same)

-- ---- refusal of two kinds that have the same checks
abbrev Either : Public → ℕ → ℕ → ℕ → ℕ → ℕ → Type 0
Either p low high k j n = (n ≡ refusal p (event k low high)) × (n ≡ refusal p (event j low high))

abbrev EitherState : Public → ℕ → ℕ → ℕ → Type 0
EitherState p k j n = (n ≡ state_refusal p k) × (n ≡ state_refusal p j)

module _ (p : Public) (low high : ℕ) where
  pub reads-high : 0 < word low high → Either p low high 0 2 2
  reads-high h = (refusal-high p _ refl h, refusal-high p _ refl h)

  pub reads_fit : word low high ≤ 0 → Either p low high 0 2 0
  unfolding state_refusal
  reads_fit h = (refusal_fits p _ refl h refl, refusal_fits p _ refl h refl)

  pub writes_high : 255 < word low high → Either p low high 1 3 2
  writes_high h = (refusal-high p _ refl h, refusal-high p _ refl h)

  pub writes_fit : {n : ℕ} → word low high ≤ 255 → EitherState p 1 3 n → Either p low high 1 3 n
  writes_fit h (one, three) = (refusal_fits p _ refl h one, refusal_fits p _ refl h three)

  pub ends-high : 0 < word low high → Either p low high 6 7 2
  ends-high h = (refusal-high p _ refl h, refusal-high p _ refl h)

  pub ends_fit : {n : ℕ} → word low high ≤ 0 → EitherState p 6 7 n → Either p low high 6 7 n
  ends_fit h (six, seven) = (refusal_fits p _ refl h six, refusal_fits p _ refl h seven)

-- ---- state_refusal, where a byte is being sent or not
module _ (p : Public) {busy : Bool} (is_busy : busy ≡ input_full p) where
  pub writes_busy : busy ≡ true → EitherState p 1 3 3
  unfolding state_refusal
  writes_busy b = (simp (sym is_busy ∙ b), simp (sym is_busy ∙ b))

  pub writes_locked : {locked : Bool} → busy ≡ false → locked ≡ p.locked → locked ≡ true → EitherState p 1 3 4
  unfolding state_refusal
  writes_locked b is_locked l = (simp (sym is_busy ∙ b, sym is_locked ∙ l), simp (sym is_busy ∙ b, sym is_locked ∙ l))

  pub writes_free : {locked : Bool} → busy ≡ false → locked ≡ p.locked → locked ≡ false → EitherState p 1 3 0
  unfolding state_refusal
  writes_free b is_locked l = (simp (sym is_busy ∙ b, sym is_locked ∙ l), simp (sym is_busy ∙ b, sym is_locked ∙ l))

  pub ends-idle : busy ≡ false → EitherState p 6 7 6
  unfolding state_refusal
  ends-idle b = (simp (sym is_busy ∙ b), simp (sym is_busy ∙ b))

  pub ends_free : busy ≡ true → EitherState p 6 7 0
  unfolding state_refusal
  ends_free b = (simp (sym is_busy ∙ b), simp (sym is_busy ∙ b))

-- ---- step

pub step-accepted : (m : Machine) (e : Event) → refusal m.plain e ≡ 0 → step m e ≡ accept m e
unfolding step
step-accepted m e a = simp a

pub step-refused : (m : Machine) (e : Event) → (refusal m.plain e ≡ 0 → ⊥) → step m e ≡ m
unfolding step
step-refused m e r = simp (ne_eqb _ _ r)

-- ---- reply
pub reply-refused : (p : Public) (e : Event) (q : Public) (n : ℕ) → n ≡ refusal p e → (n ≡ 0 → ⊥) → reply p e q ≡ refused_reply p n
unfolding reply
reply-refused p e q n same r = simp (← same, ne_eqb n 0 r)

pub reply-accepted : (p : Public) (e : Event) (q : Public) → refusal p e ≡ 0 →
    reply p e q ≡ 0 ∷ byte_read p e.kind ∷ old_mark p e.kind ∷ lines q (pulse p e)
unfolding reply
reply-accepted p e q a = simp a

-- ---- accept, by the kind
module _ (m : Machine) (e : Event) where
  pub accept_read : e.kind ≡ 0 → accept m e ≡ lift emptied m
  unfolding accept
  accept_read k = simp k

  pub accept_data : e.kind ≡ 1 → accept m e ≡ write_data (value e) m
  unfolding accept
  accept_data k = simp k

  pub accept-status : e.kind ≡ 2 → accept m e ≡ m
  unfolding accept
  accept-status k = simp k

  pub accept-command : e.kind ≡ 3 → accept m e ≡ write_command (value e) m
  unfolding accept
  accept-command k = simp k

  pub accept_keyboard : e.kind ≡ 4 → accept m e ≡ keyboard_frame (check (value e)) m
  unfolding accept
  accept_keyboard k = simp k

  pub accept-mouse : e.kind ≡ 5 → accept m e ≡ lift (mouse_frame (check (value e))) m
  unfolding accept
  accept-mouse k = simp k

  pub accept-taken : e.kind ≡ 6 → accept m e ≡ lift taken m
  unfolding accept
  accept-taken k = simp k

  pub accept-timeout : e.kind ≡ 7 → accept m e ≡ lift timed_out m
  unfolding accept
  accept-timeout k = simp k

  pub accept-pins : e.kind ≡ 8 → accept m e ≡ lift (pinned (value e)) m
  unfolding accept
  accept-pins k = simp k

  -- what holds of the machine after each kind of event, the status read and unknown kinds leaving it as it is, holds after this one
  pub accept-holds : (P : Machine → Type 0) → P m → P (lift emptied m) → (e.kind ≡ 1 → P (write_data (value e) m)) →
      (e.kind ≡ 3 → P (write_command (value e) m)) → (e.kind ≡ 4 → P (keyboard_frame (check (value e)) m)) →
      P (lift (mouse_frame (check (value e))) m) → P (lift taken m) → P (lift timed_out m) → (e.kind ≡ 8 → P (lift (pinned (value e)) m)) →
      P (accept m e)
  unfolding accept
  accept-holds P same read written command keyboard mouse took late pins =
      cond_both P (eqb e.kind 0) read
      (cond-holds P (eqb e.kind 1) (λ k. written (eqb-true _ _ k)) λ _.
      cond-holds P (eqb e.kind 3) (λ k. command (eqb-true _ _ k)) λ _.
      cond-holds P (eqb e.kind 4) (λ k. keyboard (eqb-true _ _ k)) λ _.
      cond_both P (eqb e.kind 5) mouse
      (cond_both P (eqb e.kind 6) took
      (cond_both P (eqb e.kind 7) late (cond-holds P (eqb e.kind 8) (λ k. pins (eqb-true _ _ k)) λ _. same))))
