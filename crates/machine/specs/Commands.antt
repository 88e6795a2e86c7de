-- "Events", kind 3, and "Commands": what a command byte written to port 64h does.
use Rattle.std.specs.Prelude.{ℕ, ◌-◌, ◌/◌, ◌%◌, Bool, true, false, cond, not, ◌&&◌, ◌||◌, eqb, leb, length}
use Rattle.translation.specs.Bits.{has, within, set_bit, clear_bit, nibble}
use Rattle.machine.specs.Settings.{Settings}
use Rattle.machine.specs.State.{Public, Machine, with_host, after_command, with_overlay, with_locked, lift}
use Rattle.machine.specs.Lines.{at_mode, second_set, put, put_cell, cell_of, mode, with_mode, input_port, output_port}
use Rattle.machine.specs.Lines.{keyboard_off, mouse_off, keyboard_disabled, keyboard_enabled, mouse_disabled, mouse_enabled}
use Rattle.machine.specs.DataPort.{dropped}
use Rattle.machine.specs.SecondSet.{second_only, second_command}

-- The commands of PS/2 mode alone: the lock code's and the mouse's, the overlays, and the writes to the buffer and the mouse.
abbrev pub ps2_only : ℕ → Bool
ps2_only c = within 0xA4 0xA9 c || (within 0xC1 0xC2 c || within 0xD2 0xD4 c)

-- The commands of the first set alone: those that load a lock code and lock (document 02, W6).
abbrev pub first_only : ℕ → Bool
first_only c = within 0xA5 0xA6 c

-- The commands that the set of the start does not have.
abbrev pub not_in_set : Settings → ℕ → Bool
not_in_set x c = cond x.second_set (first_only c) (second_only c)

-- The commands that mode or set leaves out (document 02, W3 and W6).
abbrev pub left_out : Settings → ℕ → Bool
left_out x c = (x.at_mode && ps2_only c) || not_in_set x c

-- A command as it acts under the settings of the start: one that is left out acts as 00h, which does nothing under any settings.
abbrev pub understood : Settings → ℕ → ℕ
understood x c = cond (left_out x c) 0 c

-- The pending code that a command leaves.
unfoldable pub pending_of : ℕ → ℕ
pending_of c =
    cond (eqb c 0x60) 1
    (cond (within 0x61 0x7F c) 2
    (cond (eqb c 0xA5) 3
    (cond (eqb c 0xD1) 4 (cond (eqb c 0xD2) 5 (cond (eqb c 0xD3) 6 (cond (eqb c 0xD4) 7 0))))))

-- the cell that 61h-7Fh name
abbrev pub cell_named : ℕ → ℕ
cell_named c = cond (within 0x61 0x7F c) (c - 0x60) 0

-- Before any command acts: C is 1, the overlay ends, and the pending code is the command's own.
abbrev pub command_written : ℕ → Public → Public
command_written c p = with_host p (after_command (pending_of c) (cell_named c))

-- a load that a command cuts short leaves no code
unfoldable pub load_cut : Machine → Machine
load_cut m = cond (eqb m.plain.host.pending 3) (dropped m) m

-- bits 4-7 of the status are replaced by this nibble
abbrev pub overlaid : ℕ → Public → Public
overlaid n p = with_host p (with_overlay p.host n)

-- A nibble of P1 as an overlay stores it: with the second command set its bit 0 is 0 (document 02, W6).
abbrev pub polled : ℕ → Public → ℕ
polled n p = cond (second_set p) (clear_bit n 0) n

-- half of P1 over the status
abbrev pub low_lines_shown : Public → Public
low_lines_shown p = overlaid (polled (input_port p % 16) p) p

abbrev pub high_lines_shown : Public → Public
high_lines_shown p = overlaid (polled (input_port p / 16) p) p

abbrev pub input_port_put : Public → Public
input_port_put p = put (input_port p) p

-- the self-test: both devices on, SYS set, 55h
abbrev pub self_tested : Public → Public
self_tested p = put 0x55 (with_mode (set_bit (clear_bit (clear_bit (mode p) 4) 5) 2) p)

-- The test inputs: bit 0 keyboard not off, bit 1 mouse not off; in AT mode bit 0 is 1 and bit 1 keyboard not off (document 02, W3).
unfoldable pub test_inputs : Public → ℕ
test_inputs p =
    cond (at_mode p) (nibble true (not (keyboard_off p)) false false) (nibble (not (keyboard_off p)) (not (mouse_off p)) false false)

abbrev pub test_inputs_put : Public → Public
test_inputs_put p = put (test_inputs p) p

-- the output port as it was before this byte is put
abbrev pub output_port_put : Public → Public
output_port_put p = put (output_port p) p

abbrev pub named_cell_put : ℕ → Public → Public
named_cell_put k p = put (cell_of p k) p

-- Commands that concern the public part alone; the last are those of the second set.
unfoldable pub plain_command : ℕ → Public → Public
plain_command c p =
    cond (within 0x20 0x3F c) (named_cell_put (c - 0x20) p)
    (cond (eqb c 0xA7) (mouse_disabled p)
    (cond (eqb c 0xA8) (mouse_enabled p)
    (cond (eqb c 0xA9) (put 0 p)
    (cond (eqb c 0xAA) (self_tested p)
    (cond (eqb c 0xAB) (put 0 p)
    (cond (eqb c 0xAD) (keyboard_disabled p)
    (cond (eqb c 0xAE) (keyboard_enabled p)
    (cond (eqb c 0xC0) (input_port_put p)
    (cond (eqb c 0xC1) (low_lines_shown p)
    (cond (eqb c 0xC2) (high_lines_shown p)
    (cond (eqb c 0xD0) (output_port_put p)
    (cond (eqb c 0xE0) (test_inputs_put p) (second_command c p)))))))))))))

-- a lock code has been loaded
abbrev pub has_code : Machine → Bool
has_code m = not (eqb (length m.secret.code) 0)

-- A4h: FAh with a code, F1h without; with the second command set always F1h (document 02, W6)
unfoldable pub code_asked : Machine → Machine
code_asked m = cond (has_code m && not (second_set m.plain)) (lift (put 0xFA) m) (lift (put 0xF1) m)

-- locked, nothing typed yet
abbrev pub lock_set : Machine → Machine
lock_set m = record { plain = with_locked m.plain true; secret = record { code = m.secret.code; position = 0 } }

-- A6h: where there is a code, the lock is set and cell 13h put unless it is 0
unfoldable pub lock_command : Machine → Machine
lock_command m = cond (has_code m) (lift (put_cell 0x13) (lock_set m)) m

-- A4h asks for the code, A5h drops it, A6h locks.
unfoldable pub acts : ℕ → Machine → Machine
acts c m =
    cond (eqb c 0xA4) (code_asked m)
    (cond (eqb c 0xA5) (dropped m) (cond (eqb c 0xA6) (lock_command m) (lift (plain_command c) m)))

-- Kind 3.
unfoldable pub write_command : ℕ → Machine → Machine
write_command c m =
    let known = understood m.plain.settings c in
    acts known (lift (command_written known) (load_cut m))

-- F0h-FFh pulse P20 where bit 0 is 0 and P21 where bit 1 is 0, in AT mode P22 and P23 by bits 2 and 3 as well: a mask of the lines of P2.
unfoldable pub pulse_of : Settings → ℕ → ℕ
pulse_of x c =
    cond (leb 0xF0 c) (nibble (not (has c 0)) (not (has c 1)) (x.at_mode && not (has c 2)) (x.at_mode && not (has c 3))) 0
