-- Numbers that callers in other languages pass and get.
use Rattle.std.specs.Prelude.{ℕ, ◌/◌, ◌%◌}
use Rattle.machine.specs.Events.{Event, event}

-- an event of a kind and a value as one number
abbrev pub event_of : ℕ → ℕ → Event
event_of kind value = event kind (value % 256) (value / 256)

-- The version of the library: it goes up with each change of a call, a size or a rule.
abbrev pub library_version : ℕ
library_version = 3
