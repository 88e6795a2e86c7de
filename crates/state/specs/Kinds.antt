-- The kinds of events by their numbers (document 01, "Events").
use Rattle.std.specs.Prelude.{ℕ, ◌≡◌, ◌<◌, Result, Ok, Err}
use Rattle.refusals.specs.declared.refusal.Refusal.{Refusal}
use Rattle.refusals.specs.declared.refusal.Refusal.TheVariants as check
use Rattle.state.specs.declared.event.Kind.{Kind}
use Rattle.state.specs.declared.event.Kind.TheVariants as kind

abbrev pub kind_number : Kind → ℕ
kind_number kind.ReadData = 0
kind_number kind.WriteData = 1
kind_number kind.ReadStatus = 2
kind_number kind.WriteCommand = 3
kind_number kind.KeyboardFrame = 4
kind_number kind.MouseFrame = 5
kind_number kind.Taken = 6
kind_number kind.TimeOut = 7
kind_number kind.Pins = 8

-- What a number stands for: one of the nine kinds, or it is above them all.
abbrev pub IsKind : ℕ → Result Kind Refusal → Type 0
IsKind n (Ok k) = kind_number k ≡ n
IsKind n (Err r) = (r ≡ check.UnknownKind) × (8 < n)
