-- What a start promises. It keeps the body rules, since its table is the built-in one or has passed checks 13 to 15 (document 02, W7).
use Rattle.std.specs.Prelude.{ℕ, ◌≡◌, List}
use Rattle.translation.specs.KeyTable.{table_refusal}
use Rattle.machine.specs.Settings.{Settings, settings_of}
use Rattle.machine.specs.State.{fresh}
use Rattle.machine.specs.Kept.{Kept}
use Rattle.state.specs.View.{view, state_of}

-- The state of a fresh machine with these settings.
pub record Started (x : Settings) (s : List ℕ) : Type 0 where
  pub bytes : s ≡ state_of (fresh x)
  pub machine : view s ≡ fresh x
  pub kept : Kept (view s)

-- A start with a table of the caller's: refused by the table's number with every byte of the state as it was, or started.
pub record TableStarted (options version : ℕ) (table s : List ℕ) (number : ℕ) (s' : List ℕ) : Type 0 where
  pub refusal : number ≡ table_refusal table
  pub refused : (table_refusal table ≡ 0 → ⊥) → s' ≡ s
  pub started : table_refusal table ≡ 0 → Started (settings_of options version table) s'
