-- "State and lines", what the state shows on the lines: the mode byte's bits, status, the output port P2, and a byte put for the host.
use Rattle.std.specs.Prelude.{ℕ, ◌+◌, ◌*◌, ◌%◌, Bool, true, false, cond, not, ◌&&◌, get_or, set, eqb}
use Rattle.std.specs.Int.Bits.{bit_and, bit_or}
use Rattle.translation.specs.Bits.{has, set_bit, clear_bit, nibble}
use Rattle.machine.specs.State.{Public, with_output, with_ram}

-- started in AT mode (document 02, W3), else in PS/2 mode
abbrev pub at_mode : Public → Bool
at_mode p = p.settings.at_mode

-- started with the second command set (document 02, W6), else with the first
abbrev pub second_set : Public → Bool
second_set p = p.settings.second_set

-- a cell of the RAM; cell 0 is the mode byte
abbrev pub cell_of : Public → ℕ → ℕ
cell_of p k = get_or p.ram k 0

abbrev pub mode : Public → ℕ
mode p = cell_of p 0

abbrev pub with_mode : ℕ → Public → Public
with_mode v p = with_ram p (set p.ram 0 v)

-- The mode byte: bit 0 EKI, 1 EMI, 2 SYS, 3 inhibit override, 4 keyboard off, 5 mouse off, 6 translate.
abbrev pub keyboard_interrupt : Public → Bool
keyboard_interrupt p = has (mode p) 0

abbrev pub mouse_interrupt : Public → Bool
mouse_interrupt p = has (mode p) 1

abbrev pub system : Public → Bool
system p = has (mode p) 2

abbrev pub override : Public → Bool
override p = has (mode p) 3

abbrev pub keyboard_off : Public → Bool
keyboard_off p = has (mode p) 4

abbrev pub mouse_off : Public → Bool
mouse_off p = has (mode p) 5

abbrev pub translates : Public → Bool
translates p = has (mode p) 6

-- a device switched off or on
abbrev pub keyboard_disabled : Public → Public
keyboard_disabled p = with_mode (set_bit (mode p) 4) p

abbrev pub keyboard_enabled : Public → Public
keyboard_enabled p = with_mode (clear_bit (mode p) 4) p

abbrev pub mouse_disabled : Public → Public
mouse_disabled p = with_mode (set_bit (mode p) 5) p

abbrev pub mouse_enabled : Public → Public
mouse_enabled p = with_mode (clear_bit (mode p) 5) p

-- Input buffer full (IBF): a byte is being sent to a device.
abbrev pub input_full : Public → Bool
input_full p = not (eqb p.sending.to 0)

-- P1 as it is read: the pins. With the second command set a line reads 1 exactly if its pin and its latch are 1; P16 and P17 have no latch
-- (document 02, W6).
unfoldable pub input_port : Public → ℕ
input_port p = cond (second_set p) (bit_and p.ports.pins (bit_or p.ports.input_latches 0xC0)) p.ports.pins

-- P1 bit 7, the key lock: 0 keeps the keyboard from the host, unless overridden.
abbrev pub key_switch : Public → Bool
key_switch p = has (input_port p) 7

abbrev pub inhibited : Public → Bool
inhibited p = not (key_switch p) && not (override p)

-- With the mouse lock it keeps the mouse from the host too, and the mode byte does not override that (document 02, W1).
abbrev pub mouse_inhibited : Public → Bool
mouse_inhibited p = p.settings.mouse_lock && not (key_switch p)

-- Status bit 5: OBF with mouse source; in AT mode the transmit time-out.
abbrev pub status_bit5 : Public → Bool
status_bit5 p = cond (at_mode p) p.errors.ttim (p.output.full && p.output.mouse)

-- What an overlay shows: its nibble. With the second command set status bit 4 remains P1 bit 7 (document 02, W6).
unfoldable pub overlay_shown : Public → ℕ
overlay_shown p =
    let n = p.host.nibble in
    cond (second_set p) (nibble (key_switch p) (has n 1) (has n 2) (has n 3)) (n % 16)

-- Status bits 4-7 with some bit 5: P1 bit 7, that bit, TERR, PERR; or the overlay.
abbrev pub high_with : Bool → Public → ℕ
high_with five p =
    cond p.host.overlay (overlay_shown p)
    (nibble (key_switch p) five p.errors.terr p.errors.perr)

unfoldable pub high_nibble : Public → ℕ
high_nibble p = high_with (status_bit5 p) p

-- Status: bit 0 OBF, 1 IBF, 2 SYS, 3 C, and bits 4-7.
unfoldable pub status : Public → ℕ
status p = nibble p.output.full (input_full p) (system p) p.host.command + 16 * high_nibble p

-- KIRQ and MIRQ: a full buffer from that device, while its interrupt is enabled.
abbrev pub keyboard_request : Public → Bool
keyboard_request p = p.output.full && (not p.output.mouse && keyboard_interrupt p)

abbrev pub mouse_request : Public → Bool
mouse_request p = p.output.full && (p.output.mouse && mouse_interrupt p)

-- P2 in PS/2 mode: bits 0 and 1 latches, 3 mouse off, 4 KIRQ, 5 MIRQ, 6 keyboard off; 2 and 7 are 0.
abbrev pub ps2_port : Public → ℕ
ps2_port p =
    nibble p.ports.p20 p.ports.p21 false (mouse_off p)
    + 16 * nibble (keyboard_request p) (mouse_request p) (keyboard_off p) false

-- P2 in AT mode: bits 0-3 and 5 latches, 4 OBF and EKI, 6 keyboard off; 7 is 1 (document 02, W3).
abbrev pub at_port : Public → ℕ
at_port p =
    nibble p.ports.p20 p.ports.p21 p.ports.p22 p.ports.p23
    + 16 * nibble (p.output.full && keyboard_interrupt p) p.ports.p25 (keyboard_off p) true

unfoldable pub output_port : Public → ℕ
output_port p = cond (at_mode p) (at_port p) (ps2_port p)

-- To put a byte: it becomes the output byte, and an older one is lost.
abbrev pub put : ℕ → Public → Public
put b p = with_output p (record { byte = b; full = true; mouse = false })

abbrev pub put_mouse : ℕ → Public → Public
put_mouse b p = with_output p (record { byte = b; full = true; mouse = true })

-- a cell put, unless it is 0
unfoldable pub put_cell : ℕ → Public → Public
put_cell k p = cond (eqb (cell_of p k) 0) p (put (cell_of p k) p)
