-- Document 02, W1, W3, W6 and W7: what a start names. It is part of the state, and no event changes it. A new setting is a new field here.
use Rattle.std.specs.Prelude.{ℕ, Bool, false, List}
use Rattle.translation.specs.Bits.{has}
use Rattle.translation.specs.KeyTable.{built_in}

pub record Settings : Type 0 where
  -- the VT82C42's mouse lock: the key switch keeps the mouse from the host as well
  pub mouse_lock : Bool
  -- AT mode, for PCs older than the PS/2: no mouse and no lock code, and other lines on status and output port
  pub at_mode : Bool
  -- the second command set, that of the VT82C42; else the first, document 01's
  pub second_set : Bool
  -- the version byte, which that chip's firmware can ask for
  pub version : ℕ
  -- the key table, an entry for each byte of scan code set 2
  pub table : List ℕ

-- The ordinary settings: those of a start that names nothing else.
abbrev pub ordinary : Settings
ordinary = record { mouse_lock = false; at_mode = false; second_set = false; version = 0; table = built_in }

-- A byte of options names them: mouse lock in bit 0, AT mode in bit 1, the second command set in bit 2; no other bit is looked at. The version byte
-- and the key table stand beside it.
abbrev pub settings_of : ℕ → ℕ → List ℕ → Settings
settings_of options version table =
    record { mouse_lock = has options 0; at_mode = has options 1; second_set = has options 2; version = version; table = table }
