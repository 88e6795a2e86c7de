-- The trackball, and the bytes handed out, that the program's types stand for.
use Rattle.std.specs.Prelude.{ℕ, List, [], ◌∷◌}
use Rattle.trackball.specs.declared.counters.Axis.{Axis}
use Rattle.trackball.specs.declared.trackball.Trackball.{Trackball}
use Rattle.trackball.specs.declared.packets.Bytes.{Bytes}
use Rattle.trackball.specs.declared.packets.Bytes.TheVariants as variant
use Rattle.trackball.specs.Counters.{Counter}
use Rattle.trackball.specs.Trackball.{Mouse}

-- Field by field.
abbrev pub counter : Axis → Counter
counter a = record { sum = a.sum; overflow = a.overflow }

abbrev pub view : Trackball → Mouse
view t = record { x = counter t.x; y = counter t.y; buttons = t.buttons; reporting = t.reporting }

-- No bytes, or one to four of them.
abbrev pub bytes_in : Bytes → List ℕ
bytes_in variant.Nothing = []
bytes_in (variant.One a) = a ∷ []
bytes_in (variant.Two a b) = a ∷ b ∷ []
bytes_in (variant.Three a b c) = a ∷ b ∷ c ∷ []
bytes_in (variant.Four a b c d) = a ∷ b ∷ c ∷ d ∷ []
