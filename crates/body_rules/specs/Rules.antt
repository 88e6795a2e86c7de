-- "Saved image", the body rules, over the bytes of a body, part by part: those of edition 1, which hold in each, and those of the bytes that edition 2
-- adds.
use Rattle.std.specs.Prelude.{ℕ, Bool, true, cond, not, ◌&&◌, List, take, drop, eqb, leb, ltb}
use Rattle.std.specs.List.{list_all}
use Rattle.translation.specs.Bits.{has}
use Rattle.body_rules.specs.Body.{flags_byte, latches_byte, pending_byte, cell_byte, overlay_byte, nibble_byte, sent_to_byte, sent_byte}
use Rattle.body_rules.specs.Body.{length_byte, position_byte, code_bytes, mode_byte}
use Rattle.body_rules.specs.Added.{added_kept}

-- Flags: bit 7 is unused; mouse source needs OBF.
unfoldable pub flags_kept : List ℕ → Bool
flags_kept b = ltb (flags_byte b) 0x80 && cond (has (flags_byte b) 1) (has (flags_byte b) 0) true

-- Latches: bits 2-7 are unused.
abbrev pub latches_kept : List ℕ → Bool
latches_kept b = ltb (latches_byte b) 4

-- Pending is at most 7; the cell is 1-31 for code 2, else 0.
unfoldable pub pending_kept : List ℕ → Bool
pending_kept b =
    leb (pending_byte b) 7
    && cond (eqb (pending_byte b) 2) (leb 1 (cell_byte b) && leb (cell_byte b) 31) (eqb (cell_byte b) 0)

-- Overlay present is at most 1; its nibble has four bits, and is 0 with no overlay.
unfoldable pub overlay_kept : List ℕ → Bool
overlay_kept b =
    leb (overlay_byte b) 1 && cond (eqb (overlay_byte b) 0) (eqb (nibble_byte b) 0) (ltb (nibble_byte b) 0x10)

-- The destination is at most 2; the byte is 0 with nobody.
unfoldable pub sending_kept : List ℕ → Bool
sending_kept b = leb (sent_to_byte b) 2 && cond (eqb (sent_to_byte b) 0) (eqb (sent_byte b) 0) true

abbrev pub is_zero : ℕ → Bool
is_zero x = eqb x 0

abbrev pub nonzero : ℕ → Bool
nonzero x = not (eqb x 0)

-- The lock code has at most 16 bytes; they are nonzero, and zeros come after.
unfoldable pub code_kept : List ℕ → Bool
code_kept b =
    leb (length_byte b) 16
    && (list_all nonzero (take (length_byte b) (code_bytes b)) && list_all is_zero (drop (length_byte b) (code_bytes b)))

-- Locked needs a lock code, pending 0 and nobody, with the position below the code's length; not locked, the position is 0.
unfoldable pub lock_kept : List ℕ → Bool
lock_kept b =
    cond (has (flags_byte b) 6) (ltb (position_byte b) (length_byte b) && (eqb (pending_byte b) 0 && eqb (sent_to_byte b) 0)) (eqb (position_byte b) 0)

-- Cell 0: bit 7 is 0.
abbrev pub mode_kept : List ℕ → Bool
mode_kept b = ltb (mode_byte b) 0x80

unfoldable pub common_kept : List ℕ → Bool
common_kept b =
    flags_kept b
    && (latches_kept b && (pending_kept b && (overlay_kept b && (sending_kept b && (code_kept b && (lock_kept b && mode_kept b))))))

-- all the rules, over the 64 bytes of edition 2
unfoldable pub body_kept : List ℕ → Bool
body_kept b = common_kept b && added_kept b
