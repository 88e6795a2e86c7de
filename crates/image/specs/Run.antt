-- An image loaded, a list of events run and the machine saved again, as one call: its checks in their order, and what the call promises.
use Rattle.std.specs.Prelude.{ℕ, ◌*◌, ◌≡◌, List, ◌++◌, length, drop}
use Rattle.machine.specs.State.{Machine}
use Rattle.machine.specs.Events.{Event}
use Rattle.machine.specs.Run.{events, after, answers, filled, list_refusal}
use Rattle.machine.specs.Kept.{Kept}
use Rattle.image_bytes.specs.Checks.{first_of}
use Rattle.image.specs.Image.{image}
use Rattle.image.specs.Load.{load_refusal, resumed}
use Rattle.image.specs.Save.{save_refusal, saved}

-- Checks 7 and 8 for the list and the answer buffer, 9 for the space of the save, 10 and 11 for the image, 13 to 15 for the table.
unfoldable pub run_refusal : List ℕ → List ℕ → List ℕ → List ℕ → List ℕ → ℕ
run_refusal table bytes list space room = first_of (list_refusal list space) (first_of (save_refusal room) (load_refusal table bytes))

-- A run that was saved after the events es and goes on with the events fs: together it is the run of m on all of them, in its answers and in
-- the machine that is saved at the end.
pub record SplitRun (m : Machine) (es fs : List Event) (space room space' room' : List ℕ) : Type 0 where
  pub answered : answers m es ++ space' ≡ answers m (es ++ fs) ++ drop (9 * length fs) space
  pub imaged : room' ≡ saved (after m (es ++ fs)) room

-- Refused by its number, with both buffers as they were; or the answers of the list from the image's machine, and the image of the machine
-- after it. An image that was saved in the middle of a run with this version byte and table makes it a split run: run, save, load, run is the run.
pub record ImageRun (version : ℕ) (table bytes list space room : List ℕ) (number : ℕ) (space' room' : List ℕ) : Type 0 where
  pub refusal : number ≡ run_refusal table bytes list space room
  pub refused : (run_refusal table bytes list space room ≡ 0 → ⊥) → (space' ≡ space) × (room' ≡ room)
  pub answered : run_refusal table bytes list space room ≡ 0 → space' ≡ filled (resumed version table bytes) (events list) space
  pub imaged : run_refusal table bytes list space room ≡ 0 → room' ≡ saved (after (resumed version table bytes) (events list)) room
  pub split : (m : Machine) (es : List Event) (front : List ℕ) → Kept m → m.plain.settings.version ≡ version → m.plain.settings.table ≡ table →
      bytes ≡ front ++ image (after m es) →
      list_refusal list space ≡ 0 → save_refusal room ≡ 0 →
      (number ≡ 0) × SplitRun m es (events list) space room space' room'
