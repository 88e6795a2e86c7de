-- What the functions inside this crate promise of a command that the set of the start may not have.
use Rattle.std.specs.Prelude.{ℕ, ◌≡◌, true, false, List}
use Rattle.machine.specs.State.{Machine}
use Rattle.machine.specs.Lines.{second_set}
use Rattle.machine.specs.SecondSet.{second_only}
use Rattle.state.specs.View.{public}
use Rattle.state.specs.Changed.{Changed}

-- With the first set a command that only the second has does nothing; any other is carried out by its rule.
pub record ChangedBySet (c : ℕ) (rule : Machine → Machine) (s s' : List ℕ) : Type 0 where
  pub known : (second_set (public s) ≡ false → second_only c ≡ false) → Changed rule s s'
  pub left : second_set (public s) ≡ false → second_only c ≡ true → Changed (λ m. m) s s'
