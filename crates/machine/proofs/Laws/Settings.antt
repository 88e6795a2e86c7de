-- A start has the settings that it names, and no event changes them. Assumes nothing.
use Prim.Native.Nat.{ℕ}
use mathlib.Core.Path.{◌≡◌, refl, ◌∙◌}
use mathlib.Core.Bool.{Bool, true, false, cond}
use mathlib.Core.List.{List, [], ◌∷◌}
use Rattle.translation.specs.Frames.{Check, sound, parity, broken, noise}
use Rattle.translation.specs.ScanCodes.{Yielded, nothing, byte}
use Rattle.machine.specs.Settings.{Settings}
use Rattle.machine.specs.State.{Public, Machine, fresh}
use Rattle.machine.specs.Lines.{put_cell}
use Rattle.machine.specs.DataPort.{plain_data, load_byte, write_data}
use Rattle.machine.specs.SecondSet.{line_written, single_command, second_command}
use Rattle.machine.specs.Commands.{load_cut, plain_command, code_asked, lock_command, acts, write_command}
use Rattle.machine.specs.Devices.{key_error, key_matched, try, yield_delivered, byte_delivered, sound_key}
use Rattle.machine.specs.Devices.{keyboard_frame, mouse_put, mouse_frame, timed_out}
use Rattle.machine.specs.Events.{Event, accept, step}
use Rattle.machine.specs.Run.{after}

-- ---- cond
of_public : (b : Bool) (p q : Public) → (cond b p q).settings ≡ cond b p.settings q.settings
of_public true p q = refl
of_public false p q = refl

of_machine : (b : Bool) (m n : Machine) → (cond b m n).plain.settings ≡ cond b m.plain.settings n.plain.settings
of_machine true m n = refl
of_machine false m n = refl

same : (b : Bool) (x : Settings) → cond b x x ≡ x
same true x = refl
same false x = refl

-- ---- fresh
pub fresh-settings : (x : Settings) → (fresh x).plain.settings ≡ x
unfolding fresh
fresh-settings x = refl

-- ---- rules of the public part
module _ (p : Public) where
  put_cell-settings : (k : ℕ) → (put_cell k p).settings ≡ p.settings
  unfolding put_cell
  put_cell-settings k = simp (of_public, same)

  plain_data-settings : (v : ℕ) → (plain_data v p).settings ≡ p.settings
  unfolding plain_data
  plain_data-settings v = simp (of_public, same)

  second_command-settings : (c : ℕ) → (second_command c p).settings ≡ p.settings
  unfolding second_command line_written single_command
  second_command-settings c = simp (of_public, same)

  plain_command-settings : (c : ℕ) → (plain_command c p).settings ≡ p.settings
  unfolding plain_command
  plain_command-settings c = simp (of_public, second_command-settings, same)

  key_error-settings : (key_error p).settings ≡ p.settings
  unfolding key_error
  key_error-settings = simp (of_public, same)

  mouse_put-settings : (b : ℕ) → (mouse_put b p).settings ≡ p.settings
  unfolding mouse_put
  mouse_put-settings b = simp (of_public, same)

  timed_out-settings : (timed_out p).settings ≡ p.settings
  unfolding timed_out
  timed_out-settings = simp (of_public, same)

mouse_frame-settings : (c : Check) (p : Public) → (mouse_frame c p).settings ≡ p.settings
unfolding mouse_frame
mouse_frame-settings (sound b) p = mouse_put-settings _ b
mouse_frame-settings parity p = mouse_put-settings _ 0xFF
mouse_frame-settings broken p = mouse_put-settings _ 0xFF
mouse_frame-settings noise p = refl

-- ---- rules of the machine
module _ (m : Machine) where
  load_byte-settings : (v : ℕ) → (load_byte v m).plain.settings ≡ m.plain.settings
  unfolding load_byte
  load_byte-settings v = simp (of_machine, same)

  load_cut-settings : (load_cut m).plain.settings ≡ m.plain.settings
  unfolding load_cut
  load_cut-settings = simp (of_machine, same)

  acts-settings : (c : ℕ) → (acts c m).plain.settings ≡ m.plain.settings
  unfolding acts code_asked lock_command
  acts-settings c = simp (of_machine, put_cell-settings, plain_command-settings, same)

  try-settings : (x : ℕ) → (try x m).plain.settings ≡ m.plain.settings
  unfolding try key_matched
  try-settings x = simp (of_machine, put_cell-settings, same)

  yield_delivered-settings : (y : Yielded) → (yield_delivered y m).plain.settings ≡ m.plain.settings
  unfolding yield_delivered byte_delivered
  yield_delivered-settings nothing = refl
  yield_delivered-settings (byte x) = simp (of_machine, try-settings, same)

write_data-settings : (v : ℕ) (m : Machine) → (write_data v m).plain.settings ≡ m.plain.settings
unfolding write_data
write_data-settings v m = simp (of_machine, load_byte-settings, plain_data-settings, same)

write_command-settings : (c : ℕ) (m : Machine) → (write_command c m).plain.settings ≡ m.plain.settings
unfolding write_command
write_command-settings c m = acts-settings _ _ ∙ load_cut-settings m

keyboard_frame-settings : (c : Check) (m : Machine) → (keyboard_frame c m).plain.settings ≡ m.plain.settings
unfolding keyboard_frame sound_key
keyboard_frame-settings (sound b) m = yield_delivered-settings _ _
keyboard_frame-settings parity m = key_error-settings _
keyboard_frame-settings broken m = key_error-settings _
keyboard_frame-settings noise m = refl

accept-settings : (m : Machine) (e : Event) → (accept m e).plain.settings ≡ m.plain.settings
unfolding accept
accept-settings m e =
    simp (
      of_machine,
      write_data-settings,
      write_command-settings,
      keyboard_frame-settings,
      mouse_frame-settings,
      timed_out-settings,
      same,
    )

-- ---- step, after
pub step-settings : (m : Machine) (e : Event) → (step m e).plain.settings ≡ m.plain.settings
unfolding step
step-settings m e = simp (of_machine, accept-settings, same)

pub after-settings : (m : Machine) (es : List Event) → (after m es).plain.settings ≡ m.plain.settings
unfolding after
after-settings m [] = refl
after-settings m (e ∷ es) = after-settings (step m e) es ∙ step-settings m e
