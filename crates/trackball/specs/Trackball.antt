-- Document 02, W8: the trackball, a PS/2 mouse that stands apart from the controller: its state, a start and a move.
use Rattle.std.specs.Prelude.{ℕ, ◌%◌, ◌<◌, ◌≡◌, Bool, false, ℤ}
use Rattle.std.specs.Int.Signed.{lt_z}
use Rattle.trackball.specs.Counters.{Counter, still, lowest, highest, stepped}

-- `buttons` has the three buttons in bits 0-2. While reporting is enabled, a report is a packet.
pub record Mouse : Type 0 where
  pub x : Counter
  pub y : Counter
  pub buttons : ℕ
  pub reporting : Bool

-- Fresh: disabled, the sums 0, no button down.
abbrev pub fresh : Mouse
fresh = record { x = still; y = still; buttons = 0; reporting = false }

-- A move: the buttons are a byte's bits 0-2, and the steps are added, reporting or not.
unfoldable pub moved : ℕ → ℤ → ℤ → Mouse → Mouse
moved b x y m = record { x = stepped x m.x; y = stepped y m.y; buttons = b % 8; reporting = m.reporting }

-- enabled or disabled
abbrev pub with_reporting : Bool → Mouse → Mouse
with_reporting r m = record { x = m.x; y = m.y; buttons = m.buttons; reporting = r }

-- no movement, as after a packet; the buttons stay
abbrev pub without_movement : Mouse → Mouse
without_movement m = record { x = still; y = still; buttons = m.buttons; reporting = m.reporting }

-- Sums within their ends, and three buttons.
pub record SumInRange (z : ℤ) : Type 0 where
  pub low : lt_z z lowest ≡ false
  pub high : lt_z highest z ≡ false

pub record InRange (m : Mouse) : Type 0 where
  pub x : SumInRange m.x.sum
  pub y : SumInRange m.y.sum
  pub buttons : m.buttons < 8
