-- Document 02, W6: the second command set, that of the VT82C42: what its own commands do.
use Rattle.std.specs.Prelude.{ℕ, ◌-◌, ◌%◌, ◌^◌, Bool, true, false, cond, not, ◌||◌, eqb, leb, ltb}
use Rattle.std.specs.Int.Bits.{bit_and, bit_or}
use Rattle.translation.specs.Bits.{has, within, weight}
use Rattle.machine.specs.State.{Public, with_ports, with_input_latches, with_high_allowed}
use Rattle.machine.specs.Lines.{at_mode, put}
use Rattle.machine.specs.DataPort.{low_latched, high_latched}

-- The commands that only the second set has.
abbrev pub second_only : ℕ → Bool
second_only c = within 0x90 0x9F c || (within 0xB0 0xBF c || (within 0xE1 0xEF c || (eqb c 0xA1 || (eqb c 0xAF || within 0xC8 0xCA c))))

-- the latches of P10-P15 as a whole
abbrev pub input_latched : ℕ → Public → Public
input_latched n p = with_ports p (with_input_latches p.ports n)

-- 9xh: the low nibble to P13-P10; P14 and P15 keep theirs
abbrev pub low_lines_written : ℕ → Public → Public
low_lines_written c p = input_latched (bit_or (bit_and p.ports.input_latches 0x30) (c % 16)) p

-- the latch of P1 whose bit has the weight w
abbrev pub input_line_written : ℕ → Bool → Public → Public
input_line_written w on p =
    let n = p.ports.input_latches in
    input_latched (cond on (bit_or n w) (bit_and n (0xFF - w))) p

-- The lines that B0h-B7h write 0 to, and B8h-BFh 1, by the low three bits: P10-P13, P22, P23, P14, P15.
unfoldable pub line_written : ℕ → Bool → Public → Public
line_written k on p =
    cond (ltb k 4) (input_line_written (2 ^ k) on p)
    (cond (eqb k 4) (high_latched on p.ports.p23 p.ports.p25 p)
    (cond (eqb k 5) (high_latched p.ports.p22 on p.ports.p25 p) (input_line_written (2 ^ (k - 2)) on p)))

-- C8h and C9h: whether D1h may write P22 and P23
abbrev pub permitted : Bool → Public → Public
permitted on p = with_ports p (with_high_allowed p.ports on)

-- E1h-EFh: P23-P21 from bits 3-1
abbrev pub output_lines_set : ℕ → Public → Public
output_lines_set c p = high_latched (has c 2) (has c 3) p.ports.p25 (low_latched p.ports.p20 (has c 1) p)

-- CAh: 1 in PS/2 mode, 0 in AT mode
abbrev pub mode_reported : Public → Public
mode_reported p = put (weight 1 (not (at_mode p))) p

-- A1h and AFh
abbrev pub version_put : Public → Public
version_put p = put p.settings.version p

-- What each of them does; any other does nothing.
unfoldable pub single_command : ℕ → Public → Public
single_command c p =
    cond (eqb c 0xA1) (version_put p)
    (cond (eqb c 0xAF) (version_put p)
    (cond (eqb c 0xC8) (permitted true p) (cond (eqb c 0xC9) (permitted false p) (cond (eqb c 0xCA) (mode_reported p) p))))

unfoldable pub second_command : ℕ → Public → Public
second_command c p =
    cond (within 0x90 0x9F c) (low_lines_written c p)
    (cond (within 0xB0 0xBF c) (line_written (c % 8) (leb 0xB8 c) p)
    (cond (within 0xE1 0xEF c) (output_lines_set c p) (single_command c p)))
