-- A saved machine is restored exactly, where the version byte and the key table given at the load are its own. The bytes end with an image of the
-- machine. That is so of every machine that keeps the body rules, whatever its settings and whatever comes before its image, and of all bytes of
-- either edition that a load accepts (proofs/Laws/RoundTrip).
use Rattle.std.specs.Prelude.{◌≡◌, true, cond, List, ◌++◌, ℕ, eqb}
use Rattle.translation.specs.KeyTable.{table_refusal}
use Rattle.machine.specs.State.{Machine}
use Rattle.machine.specs.Kept.{Kept}
use Rattle.state.specs.View.{body, given, view, IsState}
use Rattle.image_bytes.specs.Layout.{body_length, image_length}
use Rattle.image_bytes.specs.Find.{last_bytes, body_size, found}
use Rattle.body_rules.specs.Rules.{body_kept}
use Rattle.editions.specs.Read.{completed}
use Rattle.editions.specs.Moves.{forward}
use Rattle.image.specs.Image.{image}
use Rattle.image.specs.Load.{load_refusal, loaded}

-- The image that bytes end in, as a save writes it: one of edition 2 itself, of edition 1 its move.
unfoldable pub renewed : List ℕ → List ℕ
renewed bytes = cond (eqb (body_size bytes) body_length) (last_bytes image_length bytes) (forward bytes)

pub record Restored (m : Machine) (bytes : List ℕ) : Type 0 where
  pub accepted : load_refusal m.plain.settings.table bytes ≡ 0
  -- what is found is the machine's body, and a load makes the machine of it, over whatever was there before
  pub body : completed (found bytes) ≡ body m
  pub machine : (before : Machine) → loaded m.plain.settings.version m.plain.settings.table before bytes ≡ m
  pub kept : Kept m
  -- a save of it writes the same image again
  pub again : image m ≡ renewed bytes

-- The test over bytes is exact: a body passes it, and a table its checks, exactly if the state that they make is that of a machine which keeps the
-- body rules.
pub record Exact (version : ℕ) (table b : List ℕ) : Type 0 where
  pub sound : body_kept b ≡ true → table_refusal table ≡ 0 → IsState (b ++ given version table) × Kept (view (b ++ given version table))
  pub complete : IsState (b ++ given version table) → Kept (view (b ++ given version table)) → (body_kept b ≡ true) × (table_refusal table ≡ 0)

-- A load of an image of edition 1 is the load of its move, behind whatever bytes.
pub record LoadsAsMoved (bytes : List ℕ) : Type 0 where
  pub refusal : (table front : List ℕ) → load_refusal table bytes ≡ load_refusal table (front ++ forward bytes)
  pub machine : (version : ℕ) (table front : List ℕ) (m : Machine) → loaded version table m bytes ≡ loaded version table m (front ++ forward bytes)
