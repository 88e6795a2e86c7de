-- The frame check and the translation as single numbers, for callers in other languages.
use Rattle.std.specs.Prelude.{ℕ, ◌+◌, Bool, true, false}
use Rattle.translation.specs.Frames.{Check, sound, parity, broken, noise}
use Rattle.translation.specs.ScanCodes.{Translation, Yielded, nothing, byte}

-- 0-255 the byte of a sound frame, 256 a parity error, 257 a broken frame, 258 noise
abbrev pub check_number : Check → ℕ
check_number (sound b) = b
check_number parity = 256
check_number broken = 257
check_number noise = 258

-- bits 0-7 the byte that is yielded, bit 8 set where one is
abbrev pub yield_number : Yielded → ℕ
yield_number nothing = 0
yield_number (byte b) = 256 + b

-- bit 9: the break flag
abbrev pub flag_number : Bool → ℕ
flag_number false = 0
flag_number true = 512

abbrev pub translation_number : Translation → ℕ
translation_number t = yield_number t.yields + flag_number t.breaks
