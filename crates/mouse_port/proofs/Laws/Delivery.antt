-- A byte's frame is put as a byte of the mouse and read as that byte, and leaves the controller as ready as it was; so all frames of a list are.
-- Assumes nothing.
use Prim.Native.Nat.{ℕ, suc, ◌+◌, ◌*◌, ◌/◌, ◌%◌, ◌<◌}
use mathlib.Core.Path.{◌≡◌, refl, sym, ap, ap₂, subst, ◌∙◌}
use mathlib.Core.Bool.{true, false}
use mathlib.Core.List.{List, [], ◌∷◌, map}
use native.Mathlib.Omega.{arith}
use Rattle.translation.specs.Bits.{has, word, nibble}
use Rattle.translation.specs.Frames.{Check, sound, check, frame}
use Rattle.translation.proofs.Frame.{frame_below, check-frame}
use Rattle.translation.proofs.Lists.{Below}
use Rattle.machine.specs.State.{Public, Machine, lift}
use Rattle.machine.specs.Lines.{input_port, input_full, system, key_switch, mouse_inhibited, high_nibble, status, put_mouse}
use Rattle.machine.specs.Devices as devices
use Rattle.machine.specs.Devices.{errors_set}
use Rattle.machine.specs.Events.{Event, value, refusal, state_refusal, step, emptied, reply, lines, answer}
use Rattle.machine.proofs.Laws.Devices.{mouse_put-on}
use Rattle.machine.proofs.Laws.Events.{refusal_fits, reads_fit, step-accepted, accept-mouse, accept_read, reply-accepted}
use Rattle.machine.proofs.Laws.Bits.{lines_0, lines_5}
use Rattle.trackball.specs.Trackball.{Mouse}
use Rattle.trackball.specs.Packets.{report_bytes}
use Rattle.trackball.specs.Commands.{reply_bytes}
use Rattle.trackball.proofs.Laws.Commands.{reply_bytes_below, report_bytes_below}
use Rattle.mouse_port.specs.Delivery.{Ready, mouse_frame, data_read, refusal_of, read_of, old_of, status_of, ReadAs, AllRead, none, next}

-- the two bytes of a frame's value
value_frame : (f : ℕ) → word (f % 256) (f / 256) ≡ f
value_frame f = omega arith

-- the public part while the byte waits, and after it was read
abbrev waiting : ℕ → Public → Public
waiting b p = put_mouse b (errors_set false false p)

abbrev read : ℕ → Machine → Machine
read b m = lift emptied (lift (waiting b) m)

module _ (m : Machine) (ready : Ready m.plain) (b : ℕ) (byte : b < 256) where
  abbrev p : Public
  p = m.plain

  abbrev e : Event
  e = mouse_frame (frame b)

  -- ---- the frame
  frame-taken : refusal p e ≡ 0
  unfolding state_refusal
  frame-taken =
      sym
      (refusal_fits p e refl (omega (arith, value_frame (frame b), frame_below b byte))
      (sym (simp (ready.ps2, ready.on, ready.empty, ready.idle))))

  frame_found : check (value e) ≡ sound b
  frame_found = ap check (value_frame (frame b)) ∙ check-frame b byte

  still-passed : mouse_inhibited (errors_set false false p) ≡ false
  unfolding input_port
  still-passed = ready.passed

  frame-put : lift (devices.mouse_frame (sound b)) m ≡ lift (waiting b) m
  unfolding devices.mouse_frame
  frame-put = sym (mouse_put-on (lift (errors_set false false) m) b (sym ready.unlocked) (sym still-passed) refl)

  step-frame : step m e ≡ lift (waiting b) m
  step-frame =
      step-accepted m e frame-taken ∙ accept-mouse m e refl ∙ ap (λ (c : Check). lift (devices.mouse_frame c) m) frame_found ∙ frame-put

  answer-frame : answer m e ≡ 0 ∷ 0 ∷ 0 ∷ lines (waiting b p) 0
  answer-frame = ap (λ (x : Machine). reply p e x.plain) step-frame ∙ reply-accepted p e (waiting b p) frame-taken

  status-frame : status_of (answer m e) ≡ nibble true (input_full p) (system p) p.host.command + 16 * nibble (key_switch (waiting b p)) true false false
  unfolding lines status high_nibble
  status-frame = ap status_of answer-frame ∙ simp (ready.plain, ready.ps2)

  -- ---- the read
  read_taken : (q : Public) → refusal q data_read ≡ 0
  read_taken q = sym (reads_fit q 0 0 (omega arith)).0

  step_read : step (step m e) data_read ≡ read b m
  step_read =
      ap (λ (x : Machine). step x data_read) step-frame ∙ step-accepted (lift (waiting b) m) data_read (read_taken _)
      ∙ accept_read (lift (waiting b) m) data_read refl

  answer_read : answer (step m e) data_read ≡ 0 ∷ b ∷ 0 ∷ lines (step (lift (waiting b) m) data_read).plain 0
  answer_read = ap (λ (x : Machine). answer x data_read) step-frame ∙ reply-accepted (waiting b p) data_read _ (read_taken _)

  -- ---- both
  pub byte_read_back : ReadAs m (frame b) b
  byte_read_back =
      record {
        taken = ap refusal_of answer-frame;
        waits = ap (λ (n : ℕ). has n 0) status-frame ∙ lines_0 true _ _ _ _ true false false;
        from_mouse = ap (λ (n : ℕ). has n 5) status-frame ∙ lines_5 true _ _ _ _ true false false;
        accepted = ap refusal_of answer_read;
        byte = ap read_of answer_read;
        new = ap old_of answer_read;
      }

  -- as ready as before
  pub ready_again : Ready (step (step m e) data_read).plain
  unfolding input_port
  ready_again =
      subst (λ (x : Machine). Ready x.plain) (sym step_read)
      (record {
        ps2 = ready.ps2;
        on = ready.on;
        unlocked = ready.unlocked;
        passed = ready.passed;
        empty = refl;
        idle = ready.idle;
        plain = ready.plain;
      })

-- ---- all frames of a list of bytes
pub delivered : (m : Machine) → Ready m.plain → (bytes : List ℕ) → Below 256 bytes → AllRead m (map frame bytes) bytes
delivered m ready [] below = none
delivered m ready (b ∷ bs) below =
    next (byte_read_back m ready b (below 0))
    (delivered (step (step m (mouse_frame (frame b))) data_read) (ready_again m ready b (below 0)) bs (λ k. below (suc k)))

pub judged : (bytes : List ℕ) → Below 256 bytes → map check (map frame bytes) ≡ map sound bytes
judged [] below = refl
judged (b ∷ bs) below = ap₂ (λ (c : Check) (cs : List Check). c ∷ cs) (check-frame b (below 0)) (judged bs (λ k. below (suc k)))

-- ---- what a trackball hands out

-- each frame is judged sound with its byte
pub reply_judged : (b : ℕ) (t : Mouse) → map check (map frame (reply_bytes b t)) ≡ map sound (reply_bytes b t)
reply_judged b t = judged (reply_bytes b t) (reply_bytes_below b t)

pub report_judged : (t : Mouse) → map check (map frame (report_bytes t)) ≡ map sound (report_bytes t)
report_judged t = judged (report_bytes t) (report_bytes_below t)

-- and a controller that is ready reads its bytes
pub reply_read : (m : Machine) → Ready m.plain → (b : ℕ) (t : Mouse) → AllRead m (map frame (reply_bytes b t)) (reply_bytes b t)
reply_read m ready b t = delivered m ready (reply_bytes b t) (reply_bytes_below b t)

pub report_read : (m : Machine) → Ready m.plain → (t : Mouse) → AllRead m (map frame (report_bytes t)) (report_bytes t)
report_read m ready t = delivered m ready (report_bytes t) (report_bytes_below t)
