-- Document 02, W8: the frames that a trackball hands out, delivered one by one to a controller that takes them, each followed by a read of port 60h.
use Rattle.std.specs.Prelude.{ℕ, ◌/◌, ◌%◌, ◌≡◌, true, false, List, [], ◌∷◌, get_or}
use Rattle.translation.specs.Bits.{has}
use Rattle.machine.specs.State.{Public, Machine}
use Rattle.machine.specs.Lines.{at_mode, mouse_off, mouse_inhibited}
use Rattle.machine.specs.Events.{Event, event, step, answer}

-- A controller that takes a frame from the mouse and shows whose byte it is: PS/2 mode, the mouse on, not locked, not kept back by the mouse lock, the
-- output buffer empty, nobody sent to, and no overlay in the place of status bit 5.
pub record Ready (p : Public) : Type 0 where
  pub ps2 : at_mode p ≡ false
  pub on : mouse_off p ≡ false
  pub unlocked : p.locked ≡ false
  pub passed : mouse_inhibited p ≡ false
  pub empty : p.output.full ≡ false
  pub idle : p.sending.to ≡ 0
  pub plain : p.host.overlay ≡ false

-- a frame from the mouse, and a read of port 60h
abbrev pub mouse_frame : ℕ → Event
mouse_frame f = event 5 (f % 256) (f / 256)

abbrev pub data_read : Event
data_read = event 0 0 0

-- bytes of an answer: refusal, byte read, old mark, status
abbrev pub refusal_of : List ℕ → ℕ
refusal_of a = get_or a 0 0

abbrev pub read_of : List ℕ → ℕ
read_of a = get_or a 1 0

abbrev pub old_of : List ℕ → ℕ
old_of a = get_or a 2 0

abbrev pub status_of : List ℕ → ℕ
status_of a = get_or a 3 0

-- The frame is accepted and waits as a byte of the mouse, status bits 0 and 5; the read gives this byte, and it is not old.
pub record ReadAs (m : Machine) (f b : ℕ) : Type 0 where
  pub taken : refusal_of (answer m (mouse_frame f)) ≡ 0
  pub waits : has (status_of (answer m (mouse_frame f))) 0 ≡ true
  pub from_mouse : has (status_of (answer m (mouse_frame f))) 5 ≡ true
  pub accepted : refusal_of (answer (step m (mouse_frame f)) data_read) ≡ 0
  pub byte : read_of (answer (step m (mouse_frame f)) data_read) ≡ b
  pub new : old_of (answer (step m (mouse_frame f)) data_read) ≡ 0

-- These frames, each followed by a read, are read as just these bytes, in order.
pub data AllRead : Machine → List ℕ → List ℕ → Type 0 where
  none : {m : Machine} → AllRead m [] []
  next : {m : Machine} {f b : ℕ} {fs bs : List ℕ} → ReadAs m f b → AllRead (step (step m (mouse_frame f)) data_read) fs bs → AllRead m (f ∷ fs) (b ∷ bs)
