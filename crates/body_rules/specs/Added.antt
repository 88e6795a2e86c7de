-- Document 02, W9: the body rules for the four bytes that edition 2 adds.
use Rattle.std.specs.Prelude.{ℕ, Bool, true, cond, not, ◌&&◌, List, eqb, ltb}
use Rattle.translation.specs.Bits.{has}
use Rattle.body_rules.specs.Body.{nibble_byte, options_byte, input_latches_byte, high_latches_byte, time_out_byte}

-- AT mode, else PS/2 mode; the second command set, else the first; whether D1h may write P22 and P23
abbrev pub at_mode : List ℕ → Bool
at_mode b = has (options_byte b) 1

abbrev pub second_set : List ℕ → Bool
second_set b = has (options_byte b) 2

abbrev pub high_allowed : List ℕ → Bool
high_allowed b = has (options_byte b) 3

-- What has no meaning is 0: bits 4-7 of byte 60, 6 and 7 of 61, 2 and 4-7 of 62, 1-7 of 63.
unfoldable pub unused_kept : List ℕ → Bool
unused_kept b =
    ltb (options_byte b) 0x10
    && (ltb (input_latches_byte b) 0x40 && (ltb (high_latches_byte b) 0x10 && (not (has (high_latches_byte b) 2) && ltb (time_out_byte b) 2)))

-- With the first set byte 61 is 3Fh and D1h may not write P22 and P23.
unfoldable pub first_set_kept : List ℕ → Bool
first_set_kept b = cond (second_set b) true (eqb (input_latches_byte b) 0x3F && not (high_allowed b))

-- With the first set in PS/2 mode byte 62 is 03h. In PS/2 mode with either set its bit 3 and byte 63 are 0.
unfoldable pub ps2_kept : List ℕ → Bool
ps2_kept b =
    cond (at_mode b) true
    (cond (second_set b) true (eqb (high_latches_byte b) 3) && (not (has (high_latches_byte b) 3) && eqb (time_out_byte b) 0))

-- With the second set bit 0 of the overlay's nibble is 0.
unfoldable pub second_set_kept : List ℕ → Bool
second_set_kept b = cond (second_set b) (not (has (nibble_byte b) 0)) true

unfoldable pub added_kept : List ℕ → Bool
added_kept b = unused_kept b && (first_set_kept b && (ps2_kept b && second_set_kept b))
