-- What the program promises of the state's bytes where it changes them.
use Rattle.std.specs.Prelude.{◌≡◌, List, ℕ}
use Rattle.machine.specs.State.{Machine}
use Rattle.machine.specs.Kept.{Kept}
use Rattle.state.specs.View.{view, IsState}

-- A rule of the machine is carried out, whatever the bytes are. If the bytes before were exactly those of their machine, so are the bytes after, and
-- every one of them is known.
pub record Changed (rule : Machine → Machine) (s s' : List ℕ) : Type 0 where
  pub machine : view s' ≡ rule (view s)
  pub bytes : IsState s → IsState s'

-- The same of a call that other crates may make: it keeps the body rules.
pub record KeptChange (rule : Machine → Machine) (s s' : List ℕ) : Type 0 where
  pub change : Changed rule s s'
  pub kept : Kept (view s) → Kept (view s')

-- The same of one that keeps them only where something holds, which its contract names.
pub record KeptWhere (holds : Type 0) (rule : Machine → Machine) (s s' : List ℕ) : Type 0 where
  pub change : Changed rule s s'
  pub kept : holds → Kept (view s) → Kept (view s')
