-- "Events", kinds 4 to 8: what arrives from the keyboard, the mouse and the wire, and a try at the lock.
use Rattle.std.specs.Prelude.{ℕ, Bool, true, false, cond, not, ◌||◌, eqb}
use Rattle.translation.specs.Bits.{has}
use Rattle.translation.specs.Frames.{Check, sound, parity, broken, noise}
use Rattle.translation.specs.ScanCodes.{Translation, Yielded, nothing, byte, translate, raw}
use Rattle.machine.specs.State.{Public, Machine, with_errors, with_ports, with_pins, with_breaks, with_locked, lift, with_secret}
use Rattle.machine.specs.Lines.{at_mode, put, put_mouse, put_cell, cell_of, inhibited, mouse_inhibited, translates}
use Rattle.machine.specs.DataPort.{send}
use Rattle.machine.specs.Lock.{key_completes, key_leads}

-- The error bits after a frame that is no noise: a broken one sets TERR, a wrong parity PERR, and the others are cleared.
abbrev pub errors_set : Bool → Bool → Public → Public
errors_set t e p = with_errors p (record { terr = t; perr = e; ttim = false })

-- The error bits after a byte that was not taken: TERR; in AT mode the transmit time-out. The others are cleared.
abbrev pub not_taken : Public → Public
not_taken p = with_errors p (record { terr = not (at_mode p); perr = false; ttim = at_mode p })

abbrev pub positioned : ℕ → Machine → Machine
positioned k m = with_secret m (record { code = m.secret.code; position = k })

-- FFh for a damaged keyboard frame, one that is broken or has wrong parity, unless locked or inhibited
unfoldable pub key_error : Public → Public
key_error p = cond (p.locked || inhibited p) p (put 0xFF p)

-- the break flag, as the frame leaves it
abbrev pub breaking : Bool → Public → Public
breaking b p = with_breaks p b

-- A damaged keyboard frame clears the break flag and the position.
abbrev pub damaged_key : Bool → Bool → Machine → Machine
damaged_key t e m = positioned 0 (lift key_error (lift (breaking false) (lift (errors_set t e) m)))

-- A byte that is no key of a code: a break code, or one that cell 16h or 17h names.
abbrev pub ignored : ℕ → Public → Bool
ignored x p = has x 7 || (eqb x (cell_of p 0x16) || eqb x (cell_of p 0x17))

-- not locked, nothing typed
abbrev pub lock_cleared : Machine → Machine
lock_cleared m = record { plain = with_locked m.plain false; secret = record { code = m.secret.code; position = 0 } }

-- the lock opens, and cell 14h is put unless it is 0
abbrev pub unlocked : Machine → Machine
unlocked m = lift (put_cell 0x14) (lock_cleared m)

-- A key that counts, matched against the code: it opens the lock, or leads to another position.
unfoldable pub key_matched : ℕ → Machine → Machine
key_matched x m =
    let code = m.secret.code in
    let k = m.secret.position in
    cond (key_completes code k x) (unlocked m) (positioned (key_leads code k x) m)

-- A key while locked, the paper's try.
unfoldable pub try : ℕ → Machine → Machine
try x m = cond (ignored x m.plain) m (key_matched x m)

-- A byte that the translation yielded: the key lock swallows it, locked it is a try, else it is put.
unfoldable pub byte_delivered : ℕ → Machine → Machine
byte_delivered x m = cond (inhibited m.plain) m (cond m.plain.locked (try x m) (lift (put x) m))

unfoldable pub yield_delivered : Yielded → Machine → Machine
yield_delivered nothing m = m
yield_delivered (byte x) m = byte_delivered x m

-- A sound keyboard frame clears both errors; its byte is translated, by the key table of the start, if mode bit 6 is set or it is locked.
unfoldable pub translated : ℕ → Public → Translation
translated b p = cond (translates p || p.locked) (translate p.settings.table b p.breaks) (raw b)

unfoldable pub sound_key : ℕ → Machine → Machine
sound_key b m =
    let t = translated b m.plain in
    yield_delivered t.yields (lift (breaking t.breaks) (lift (errors_set false false) m))

-- Kind 4. Noise changes nothing, locked or not (document 02, W2).
unfoldable pub keyboard_frame : Check → Machine → Machine
keyboard_frame (sound b) m = sound_key b m
keyboard_frame parity m = damaged_key false true m
keyboard_frame broken m = damaged_key true false m
keyboard_frame noise m = m

-- A byte from the mouse, or FFh for a damaged frame, is put unless locked or kept back by the mouse lock.
unfoldable pub mouse_put : ℕ → Public → Public
mouse_put b p = cond (p.locked || mouse_inhibited p) p (put_mouse b p)

-- Kind 5. The errors are set likewise, and noise leaves all as it is.
unfoldable pub mouse_frame : Check → Public → Public
mouse_frame (sound b) p = mouse_put b (errors_set false false p)
mouse_frame parity p = mouse_put 0xFF (errors_set false true p)
mouse_frame broken p = mouse_put 0xFF (errors_set true false p)
mouse_frame noise p = p

-- nothing is being sent any more
abbrev pub idle : Public → Public
idle p = send 0 0 p

-- Kind 6: the device took the byte.
abbrev pub taken : Public → Public
taken p = errors_set false false (idle p)

-- Kind 7: the device did not take it. FEh is put, and its source is the device that the byte was sent to.
unfoldable pub timed_out : Public → Public
timed_out p = cond (eqb p.sending.to 2) (put_mouse 0xFE (not_taken (idle p))) (put 0xFE (not_taken (idle p)))

-- Kind 8: P1 is the value.
abbrev pub pinned : ℕ → Public → Public
pinned v p = with_ports p (with_pins p.ports v)
