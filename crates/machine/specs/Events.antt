-- "Events", "Refusing" 1-6, document 02's check 12, and "Answers": one event, the machine after it and its nine answer bytes.
use Rattle.std.specs.Prelude.{ℕ, ◌/◌, ◌%◌, Bool, false, cond, not, ◌&&◌, ◌||◌, List, [], ◌∷◌, eqb, ltb}
use Rattle.translation.specs.Frames.{check, frame}
use Rattle.machine.specs.State.{Public, Machine, with_output, lift}
use Rattle.translation.specs.Bits.{weight, word}
use Rattle.machine.specs.Lines.{at_mode, status, output_port, input_full, keyboard_off, mouse_off}
use Rattle.machine.specs.DataPort.{write_data}
use Rattle.machine.specs.Commands.{write_command, pulse_of}
use Rattle.machine.specs.Devices.{keyboard_frame, mouse_frame, taken, timed_out, pinned}

-- Three bytes: the kind, and the value low byte first.
pub record Event : Type 0 where
  pub kind : ℕ
  pub low : ℕ
  pub high : ℕ

abbrev pub event : ℕ → ℕ → ℕ → Event
event k l h = record { kind = k; low = l; high = h }

abbrev pub value : Event → ℕ
value e = word e.low e.high

-- Kinds 1 and 3 are writes, 4 and 5 frames, 6 and 7 end a byte that is being sent.
abbrev pub is_write : ℕ → Bool
is_write k = eqb k 1 || eqb k 3

abbrev pub is_frame : ℕ → Bool
is_frame k = eqb k 4 || eqb k 5

abbrev pub ends_sending : ℕ → Bool
ends_sending k = eqb k 6 || eqb k 7

-- the largest value of a kind
abbrev pub limit : ℕ → ℕ
limit k = cond (is_write k || eqb k 8) 255 (cond (is_frame k) 2047 0)

-- a mouse frame in AT mode, which has no mouse (document 02, W3)
abbrev pub from_no_mouse : Public → ℕ → Bool
from_no_mouse p k = eqb k 5 && at_mode p

-- the device that a frame comes from is off
abbrev pub device_off : Public → ℕ → Bool
device_off p k = cond (eqb k 4) (keyboard_off p) (mouse_off p)

-- a frame finds its device off, OBF 1 or IBF 1
abbrev pub cannot_receive : Public → ℕ → Bool
cannot_receive p k = device_off p k || (p.output.full || input_full p)

-- Check 12 and then 3 to 6, which go by the state.
unfoldable pub state_refusal : Public → ℕ → ℕ
state_refusal p k =
    cond (from_no_mouse p k) 12
    (cond (is_write k && input_full p) 3
    (cond (is_write k && p.locked) 4
    (cond (is_frame k && cannot_receive p k) 5 (cond (ends_sending k && not (input_full p)) 6 0))))

-- The number of the first check that refuses the event; 0 if none does.
unfoldable pub refusal : Public → Event → ℕ
refusal p e =
    cond (ltb 8 e.kind) 1 (cond (ltb (limit e.kind) (value e)) 2 (state_refusal p e.kind))

-- A read of 60h empties the buffer; the byte stays, with the keyboard as its source.
abbrev pub emptied : Public → Public
emptied p = with_output p (record { byte = p.output.byte; full = false; mouse = false })

-- What an accepted event does.
unfoldable pub accept : Machine → Event → Machine
accept m e =
    cond (eqb e.kind 0) (lift emptied m)
    (cond (eqb e.kind 1) (write_data (value e) m)
    (cond (eqb e.kind 3) (write_command (value e) m)
    (cond (eqb e.kind 4) (keyboard_frame (check (value e)) m)
    (cond (eqb e.kind 5) (lift (mouse_frame (check (value e))) m)
    (cond (eqb e.kind 6) (lift taken m)
    (cond (eqb e.kind 7) (lift timed_out m)
    (cond (eqb e.kind 8) (lift (pinned (value e)) m) m)))))))

-- A refused event changes nothing.
unfoldable pub step : Machine → Event → Machine
step m e = cond (eqb (refusal m.plain e) 0) (accept m e) m

-- The byte read, for kinds 0 and 2, and the old mark, for a read of an empty buffer.
abbrev pub byte_read : Public → ℕ → ℕ
byte_read p k = cond (eqb k 0) p.output.byte (cond (eqb k 2) (status p) 0)

abbrev pub old_mark : Public → ℕ → ℕ
old_mark p k = weight 1 (eqb k 0 && not p.output.full)

-- the lines that a command pulses
abbrev pub pulse : Public → Event → ℕ
pulse p e = cond (eqb e.kind 3) (pulse_of p.settings (value e)) 0

-- the frame being sent, or 0 if nothing is being sent
abbrev pub sent_frame : Public → ℕ
sent_frame p = cond (input_full p) (frame p.sending.byte) 0

-- Status, P2, pulse mask, destination, and the frame low byte first.
unfoldable pub lines : Public → ℕ → List ℕ
lines p pulsed =
    status p ∷ output_port p ∷ pulsed ∷ p.sending.to ∷ sent_frame p % 256 ∷ sent_frame p / 256 ∷ []

-- A refused event: its number, two zeros, the lines as they are, nothing pulsed.
abbrev pub refused_reply : Public → ℕ → List ℕ
refused_reply p n = n ∷ 0 ∷ 0 ∷ lines p 0

-- What the lines show with no event, in the same nine bytes.
abbrev pub standing : Public → List ℕ
standing p = refused_reply p 0

-- The nine bytes, from the public part before the event, the event, and the public part after it.
unfoldable pub reply : Public → Event → Public → List ℕ
reply p e q =
    cond (eqb (refusal p e) 0) (0 ∷ byte_read p e.kind ∷ old_mark p e.kind ∷ lines q (pulse p e)) (refused_reply p (refusal p e))

abbrev pub answer : Machine → Event → List ℕ
answer m e = reply m.plain e (step m e).plain
