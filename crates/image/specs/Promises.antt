-- What a save and a load promise, for their results and every byte lent to them.
use Rattle.std.specs.Prelude.{ℕ, ◌≡◌, List, ◌++◌, take}
use Rattle.machine.specs.Kept.{Kept}
use Rattle.state.specs.View.{view, IsState}
use Rattle.image_bytes.specs.Layout.{image_length}
use Rattle.image_bytes.specs.Find.{found}
use Rattle.image.specs.Save.{save_refusal, saved_bytes, saved}
use Rattle.image.specs.Load.{load_refusal, state_from, loaded}
use Rattle.image.specs.Restored.{Restored}

-- A save of a state's bytes, whatever they are. Those of a machine are saved as its image, which restores the machine wherever it then stands.
pub record Saved (s space : List ℕ) (number : ℕ) (space' : List ℕ) : Type 0 where
  pub refusal : number ≡ save_refusal space
  pub bytes : space' ≡ saved_bytes s space
  pub machine : IsState s → space' ≡ saved (view s) space
  pub restored : save_refusal space ≡ 0 → IsState s → Kept (view s) → (front : List ℕ) → Restored (view s) (front ++ take image_length space')

-- A load with a version byte and a table: refused by its number with the state as it was, or the state is the body that was found with these behind
-- it.
pub record Loaded (version : ℕ) (table s bytes : List ℕ) (number : ℕ) (s' : List ℕ) : Type 0 where
  pub refusal : number ≡ load_refusal table bytes
  pub refused : (load_refusal table bytes ≡ 0 → ⊥) → s' ≡ s
  pub stored : load_refusal table bytes ≡ 0 → (s' ≡ state_from version table (found bytes)) × IsState s'
  pub machine : view s' ≡ loaded version table (view s) bytes
  pub restored : load_refusal table bytes ≡ 0 → Restored (view s') bytes
  pub is_state : IsState s → IsState s'
  pub kept : Kept (view s) → Kept (view s')
