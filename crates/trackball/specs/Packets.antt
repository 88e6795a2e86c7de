-- Document 02, W8: the packet, and a report.
use Rattle.std.specs.Prelude.{ℕ, ◌+◌, ◌*◌, ◌%◌, cond, List, [], ◌∷◌}
use Rattle.translation.specs.Bits.{nibble}
use Rattle.trackball.specs.Counters.{negative, low_byte}
use Rattle.trackball.specs.Trackball.{Mouse, without_movement}

-- Buttons in bits 0-2, bit 3 one, the signs of x and y in 4 and 5, their overflows in 6 and 7.
abbrev pub packet_head : Mouse → ℕ
packet_head m = m.buttons % 8 + 8 + 16 * nibble (negative m.x.sum) (negative m.y.sum) m.x.overflow m.y.overflow

-- Then the low bytes, x before y.
unfoldable pub packet : Mouse → List ℕ
packet m = packet_head m ∷ low_byte m.x.sum ∷ low_byte m.y.sum ∷ []

-- The bytes of a report: one packet while enabled, else none; and the trackball after it. After a packet there is no movement.
unfoldable pub report_bytes : Mouse → List ℕ
report_bytes m = cond m.reporting (packet m) []

unfoldable pub reported : Mouse → Mouse
reported m = cond m.reporting (without_movement m) m
