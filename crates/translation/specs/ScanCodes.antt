-- "Frames and scan codes", translation of scan code set 2 to set 1.
use Rattle.std.specs.Prelude.{ℕ, ◌+◌, ◌%◌, Bool, true, false, cond, List, Option, None, Some, get_or, eqb}
use Rattle.translation.specs.declared.scan_codes.Translated.{Translated}

-- What translating a byte yields, nothing or a byte, and the break flag after it.
pub data Yielded : Type 0 where
  nothing : Yielded
  byte : ℕ → Yielded

pub record Translation : Type 0 where
  pub yields : Yielded
  pub breaks : Bool

-- a break code is the make code with bit 7 set
abbrev pub code : ℕ → Bool → ℕ
code x false = x
code x true = 0x80 + x % 0x80

-- F0h is the break prefix: it sets the flag and yields nothing. Any other byte yields its entry and clears the flag.
unfoldable pub translate : List ℕ → ℕ → Bool → Translation
translate table b breaks =
    cond (eqb b 0xF0) (record { yields = nothing; breaks = true })
    (record { yields = byte (code (get_or table b 0) breaks); breaks = false })

-- Untranslated, a byte yields itself and clears the flag.
unfoldable pub raw : ℕ → Translation
raw b = record { yields = byte b; breaks = false }

-- The program's answer, as the translation that it stands for.
abbrev pub yielded : Option ℕ → Yielded
yielded None = nothing
yielded (Some b) = byte b

abbrev pub translation : Translated → Translation
translation t = record { yields = yielded t.yields; breaks = t.breaks }
