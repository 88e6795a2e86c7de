-- An event whose two ways meet before its answer. Assumes nothing.
use mathlib.Core.List.{List}
use mathlib.Core.Logic.{◌⊎◌, ⊎_elim}
use Prim.Native.Nat.{ℕ}
use Rattle.machine.specs.Events.{Event}
use Rattle.state.specs.Told.{Own, EventTold}

pub met : {A B : Type 0} {s after : List ℕ} {e : Event} {t : Own} → A ⊎ B → (A → EventTold s e after t) → (B → EventTold s e after t) → EventTold s e after t
met came one other = ⊎_elim one other came
