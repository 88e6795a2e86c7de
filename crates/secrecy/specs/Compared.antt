-- What the calls that run two lists promise: each run is the machine's, and paired lists get equal answers. Both start with the same settings and
-- the same key table, whichever they are; a table that a check refuses is refused for both.
use Rattle.std.specs.Prelude.{ℕ, ◌*◌, ◌≡◌, List, length, take}
use Rattle.translation.specs.KeyTable.{table_refusal}
use Rattle.machine.specs.Settings.{settings_of}
use Rattle.machine.specs.State.{Machine, fresh}
use Rattle.machine.specs.Run.{events, filled, fitting}
use Rattle.controller.specs.Promises.{TableRun}
use Rattle.secrecy.specs.Paired.{Paired}

-- the machine that both start from
abbrev pub begun : ℕ → ℕ → List ℕ → Machine
begun options version table = fresh (settings_of options version table)

-- Two lists run by whole calls. Paired lists of one length, given buffers of one length, are refused by the same number, or the answers
-- written are the same.
pub record ListsCompared (options version : ℕ) (table xs s s' ys t t' : List ℕ) (first second : ℕ) : Type 0 where
  pub one : TableRun options version table xs s s' first
  pub other : TableRun options version table ys t t' second
  pub numbers : length xs ≡ length ys → length s ≡ length t → first ≡ second
  pub answers : Paired (begun options version table) (events xs) (events ys) → length xs ≡ length ys → length s ≡ length t → first ≡ 0
      → take (9 * length (events xs)) s' ≡ take (9 * length (events xs)) t'

-- Two lists of any length, run as far as the buffers have room; or neither, where the table is refused.
pub record FittingCompared (options version : ℕ) (table xs s s' ys t t' : List ℕ) (number : ℕ) : Type 0 where
  pub refusal : number ≡ table_refusal table
  pub refused : (table_refusal table ≡ 0 → ⊥) → (s' ≡ s) × (t' ≡ t)
  pub one : table_refusal table ≡ 0 → s' ≡ filled (begun options version table) (fitting xs s) s
  pub other : table_refusal table ≡ 0 → t' ≡ filled (begun options version table) (fitting ys t) t
  pub answers : table_refusal table ≡ 0 → Paired (begun options version table) (events xs) (events ys) → length s ≡ length t
      → take (9 * length (fitting xs s)) s' ≡ take (9 * length (fitting xs s)) t'
