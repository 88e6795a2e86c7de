-- "Saved image": the image of a machine.
use Rattle.std.specs.Prelude.{ℕ, List}
use Rattle.machine.specs.State.{Machine}
use Rattle.state.specs.View.{body}
use Rattle.image_bytes.specs.Layout.{sealed}

-- The body is state/specs/View's table; a save writes edition 2, with a trailer of that number behind it (document 02, W9).
unfoldable pub image : Machine → List ℕ
image m = sealed 2 (body m)
