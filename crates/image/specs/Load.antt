-- "Saved image", a load of either edition: its checks, and the machine after it. The version byte and the key table are given again (document 02, W9).
use Rattle.std.specs.Prelude.{ℕ, cond, List, ◌++◌, eqb}
use Rattle.translation.specs.KeyTable.{table_refusal}
use Rattle.machine.specs.State.{Machine}
use Rattle.state.specs.View.{given, view}
use Rattle.image_bytes.specs.Checks.{first_of}
use Rattle.image_bytes.specs.Find.{found}
use Rattle.editions.specs.Read.{completed, image_refusal}

-- Checks 10 and 11 of the image, then 13, 14 and 15 of the table.
unfoldable pub load_refusal : List ℕ → List ℕ → ℕ
load_refusal table bytes = first_of (image_refusal bytes) (table_refusal table)

-- The state of a body: as edition 2 has it, and what is given behind it.
abbrev pub state_from : ℕ → List ℕ → List ℕ → List ℕ
state_from version table b = completed b ++ given version table

-- the machine of the body that was found
abbrev pub resumed : ℕ → List ℕ → List ℕ → Machine
resumed version table bytes = view (state_from version table (found bytes))

-- A refused load leaves the machine as it was.
unfoldable pub loaded : ℕ → List ℕ → Machine → List ℕ → Machine
loaded version table m bytes = cond (eqb (load_refusal table bytes) 0) (resumed version table bytes) m
