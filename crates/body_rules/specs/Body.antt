-- "Saved image", the body: its bytes by name, the 60 of edition 1 and the four that edition 2 adds (document 02, W9). No body rule speaks of the
-- output byte, of P1 and of the RAM behind its cell 0.
use Rattle.std.specs.Prelude.{ℕ, List, get_or, take, drop}

-- 0: the output byte
abbrev pub output_byte : List ℕ → ℕ
output_byte b = get_or b 0 0

-- 1: OBF, mouse source, C, TERR, PERR, break, locked in bits 0-6
abbrev pub flags_byte : List ℕ → ℕ
flags_byte b = get_or b 1 0

-- 2: P1
abbrev pub pins_byte : List ℕ → ℕ
pins_byte b = get_or b 2 0

-- 3: the latches of P20 and P21 in bits 0 and 1
abbrev pub latches_byte : List ℕ → ℕ
latches_byte b = get_or b 3 0

-- 4: the pending code; 5: the cell for code 2
abbrev pub pending_byte : List ℕ → ℕ
pending_byte b = get_or b 4 0

abbrev pub cell_byte : List ℕ → ℕ
cell_byte b = get_or b 5 0

-- 6: whether there is an overlay; 7: its nibble
abbrev pub overlay_byte : List ℕ → ℕ
overlay_byte b = get_or b 6 0

abbrev pub nibble_byte : List ℕ → ℕ
nibble_byte b = get_or b 7 0

-- 8: the destination of the byte being sent, 0 for nobody; 9: the byte
abbrev pub sent_to_byte : List ℕ → ℕ
sent_to_byte b = get_or b 8 0

abbrev pub sent_byte : List ℕ → ℕ
sent_byte b = get_or b 9 0

-- 10: the length of the lock code; 11: the position; 12-27: the lock code, zeros after
abbrev pub length_byte : List ℕ → ℕ
length_byte b = get_or b 10 0

abbrev pub position_byte : List ℕ → ℕ
position_byte b = get_or b 11 0

abbrev pub code_bytes : List ℕ → List ℕ
code_bytes b = take 16 (drop 12 b)

-- 28-59: the RAM, whose cell 0 is the mode byte
abbrev pub ram_bytes : List ℕ → List ℕ
ram_bytes b = take 32 (drop 28 b)

abbrev pub mode_byte : List ℕ → ℕ
mode_byte b = get_or b 28 0

-- 60: mouse lock, AT mode, the second command set, D1h's permission in bits 0-3
abbrev pub options_byte : List ℕ → ℕ
options_byte b = get_or b 60 0

-- 61: the latches of P10-P15 in bits 0-5; 62: those of P22, P23 and P25 in bits 0, 1 and 3
abbrev pub input_latches_byte : List ℕ → ℕ
input_latches_byte b = get_or b 61 0

abbrev pub high_latches_byte : List ℕ → ℕ
high_latches_byte b = get_or b 62 0

-- 63: the transmit time-out in bit 0
abbrev pub time_out_byte : List ℕ → ℕ
time_out_byte b = get_or b 63 0
