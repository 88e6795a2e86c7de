-- "Frames and scan codes", the frame: a byte on the wire as an 11-bit number.
use Rattle.std.specs.Prelude.{ℕ, ◌+◌, ◌-◌, ◌*◌, ◌/◌, ◌%◌, Bool, cond, not, ltb, eqb}
use Rattle.translation.specs.Bits.{bit, has}
use Rattle.translation.specs.declared.frames.Verdict.{Verdict}
use Rattle.translation.specs.declared.frames.Verdict.TheVariants as variant

-- What a frame check finds: a sound frame with its byte, a wrong parity bit, a wrong stop bit, or a wrong start bit: noise, the field's
-- false start bit.
pub data Check : Type 0 where
  sound : ℕ → Check
  parity : Check
  broken : Check
  noise : Check

-- Bit 0 is the start bit, 1-8 the byte, 9 the parity bit, 10 the stop bit.
abbrev pub start_wrong : ℕ → Bool
start_wrong f = has f 0

abbrev pub stop_wrong : ℕ → Bool
stop_wrong f = not (has f 10)

abbrev pub too_long : ℕ → Bool
too_long f = ltb 2047 f

abbrev pub byte_of : ℕ → ℕ
byte_of f = f / 2 % 256

-- how many of the bits 1-9, the byte and its parity bit, are ones
unfoldable pub ones : ℕ → ℕ
ones f = bit f 1 + bit f 2 + bit f 3 + bit f 4 + bit f 5 + bit f 6 + bit f 7 + bit f 8 + bit f 9

-- The start bit is judged first, then the stop bit, then parity, which is odd (document 02, W2). A number of more than eleven bits is no
-- frame: it is broken, whatever its bits are.
unfoldable pub check : ℕ → Check
check f =
    cond (too_long f) broken
    (cond (start_wrong f) noise
    (cond (stop_wrong f) broken
    (cond (eqb (ones f % 2) 1) (sound (byte_of f)) parity)))

-- The frame of a byte: start 0, the byte, the parity bit that makes the count of ones odd, stop 1.
unfoldable pub frame : ℕ → ℕ
frame b = 2 * b + 512 * (1 - ones (2 * b) % 2) + 1024

-- The program's verdict on a frame, as the check that it stands for.
abbrev pub verdict : Verdict → Check
verdict (variant.Sound b) = sound b
verdict variant.Parity = parity
verdict variant.Broken = broken
verdict variant.Noise = noise
