-- "Saved image", byte 1 of the body: seven flags, a bit each.
use Rattle.std.specs.Prelude.{ℕ, ◌/◌, ◌≡◌, Bool}
use Rattle.translation.specs.Bits.{has}

-- OBF, mouse source, C, TERR, PERR, break and locked, in the order of their bits.
pub record Flags : Type 0 where
  pub full : Bool
  pub mouse : Bool
  pub command : Bool
  pub terr : Bool
  pub perr : Bool
  pub breaks : Bool
  pub locked : Bool

abbrev pub flags_of : ℕ → Flags
flags_of f =
    record { full = has f 0; mouse = has f 1; command = has f 2; terr = has f 3; perr = has f 4; breaks = has f 5; locked = has f 6 }

-- one part replaced
abbrev pub with_output : Bool → Bool → Flags → Flags
with_output full mouse x = record { full = full; mouse = mouse; command = x.command; terr = x.terr; perr = x.perr; breaks = x.breaks; locked = x.locked }

abbrev pub with_command : Bool → Flags → Flags
with_command on x = record { full = x.full; mouse = x.mouse; command = on; terr = x.terr; perr = x.perr; breaks = x.breaks; locked = x.locked }

abbrev pub with_errors : Bool → Bool → Flags → Flags
with_errors terr perr x = record { full = x.full; mouse = x.mouse; command = x.command; terr = terr; perr = perr; breaks = x.breaks; locked = x.locked }

abbrev pub with_breaks : Bool → Flags → Flags
with_breaks on x = record { full = x.full; mouse = x.mouse; command = x.command; terr = x.terr; perr = x.perr; breaks = on; locked = x.locked }

abbrev pub with_locked : Bool → Flags → Flags
with_locked on x = record { full = x.full; mouse = x.mouse; command = x.command; terr = x.terr; perr = x.perr; breaks = x.breaks; locked = on }

-- A byte after a change to these flags. Bit 7, which is no flag, is kept.
pub record Reflagged (x : Flags) (f f' : ℕ) : Type 0 where
  pub flags : flags_of f' ≡ x
  pub spare : f' / 128 ≡ f / 128
