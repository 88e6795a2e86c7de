-- "Refusing, in checking order": checks that come one after the other.
use Rattle.std.specs.Prelude.{ℕ, cond, ◌==◌}

-- Of two checks in their order the one that refuses, by its number; 0 if neither does.
unfoldable pub first_of : ℕ → ℕ → ℕ
first_of n m = cond (n == 0) m n
