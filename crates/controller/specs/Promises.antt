-- What the controller's calls promise, over the machine that the state's bytes stand for. Each says: the machine's rule on any bytes;
-- every byte of the state, where they are those of their machine; and that the body rules are kept.
use Rattle.std.specs.Prelude.{◌≡◌, ℕ, ◌%◌, cond, List, eqb, length, Result, Ok, Err}
use Rattle.refusals.specs.declared.refusal.Refusal.{Refusal}
use Rattle.translation.specs.KeyTable.{table_refusal}
use Rattle.machine.specs.Settings.{Settings, settings_of}
use Rattle.machine.specs.State.{fresh}
use Rattle.machine.specs.Events.{Event, step, answer, refusal}
use Rattle.machine.specs.Run.{events, after, filled, fitting, list_refusal}
use Rattle.machine.specs.Kept.{Kept}
use Rattle.state.specs.View.{view, public, state_of, IsState}

-- One event: the machine's step and its nine bytes. A refused event changes no byte of the state.
pub record EventAnswered (s : List ℕ) (e : Event) (s' reply : List ℕ) : Type 0 where
  pub stepped : view s' ≡ step (view s) e
  pub bytes : IsState s → s' ≡ state_of (step (view s) e)
  pub answered : reply ≡ answer (view s) e
  pub unchanged : (refusal (public s) e ≡ 0 → ⊥) → s' ≡ s
  pub kept : Kept (view s) → Kept (view s')

-- A list, as far as the answer buffer has room: the machine after it, and the buffer.
pub record FittingRun (s list space s' space' : List ℕ) : Type 0 where
  pub machine : view s' ≡ after (view s) (fitting list space)
  pub bytes : IsState s → s' ≡ state_of (after (view s) (fitting list space))
  pub buffer : space' ≡ filled (view s) (fitting list space) space
  pub kept : Kept (view s) → Kept (view s')

-- A call that runs a list: refused by its number with the state and the buffer as they were, or the whole list run.
pub record ListRun (s list space : List ℕ) (number : ℕ) (s' space' : List ℕ) : Type 0 where
  pub refusal : number ≡ list_refusal list space
  pub refused : (list_refusal list space ≡ 0 → ⊥) → (s' ≡ s) × (space' ≡ space)
  pub machine : list_refusal list space ≡ 0 → view s' ≡ after (view s) (events list)
  pub bytes : list_refusal list space ≡ 0 → IsState s → s' ≡ state_of (after (view s) (events list))
  pub buffer : list_refusal list space ≡ 0 → space' ≡ filled (view s) (events list) space
  pub kept : Kept (view s) → Kept (view s')

-- A list run from a start with these settings: refused by its number with the buffer as it was, or all its answers written.
pub record FreshRun (x : Settings) (list space space' : List ℕ) (number : ℕ) : Type 0 where
  pub refusal : number ≡ list_refusal list space
  pub refused : (list_refusal list space ≡ 0 → ⊥) → space' ≡ space
  pub answered : list_refusal list space ≡ 0 → space' ≡ filled (fresh x) (events list) space

-- Document 02, W7, a run from a start with a caller's key table: checks 13 to 15, then 7 and 8.
abbrev pub table_run_refusal : List ℕ → List ℕ → List ℕ → ℕ
table_run_refusal table list space = cond (eqb (table_refusal table) 0) (list_refusal list space) (table_refusal table)

-- Refused by its number with the buffer as it was, or all its answers written.
pub record TableRun (options version : ℕ) (table list space space' : List ℕ) (number : ℕ) : Type 0 where
  pub refusal : number ≡ table_run_refusal table list space
  pub refused : (table_run_refusal table list space ≡ 0 → ⊥) → space' ≡ space
  pub answered : table_run_refusal table list space ≡ 0 → space' ≡ filled (fresh (settings_of options version table)) (events list) space

-- Check 7 of a list that may have any length: it ends within an event.
abbrev pub remainder_refusal : List ℕ → ℕ
remainder_refusal list = cond (eqb (length list % 3) 0) 0 7

-- A list of any length, as far as the answer buffer has room, with the number of events that were run; or refused by 7 with everything as it was.
pub record CountedRun (s list space : List ℕ) (count number : ℕ) (s' space' : List ℕ) (count' : ℕ) : Type 0 where
  pub refusal : number ≡ remainder_refusal list
  pub refused : (remainder_refusal list ≡ 0 → ⊥) → (s' ≡ s) × (space' ≡ space) × (count' ≡ count)
  pub run : remainder_refusal list ≡ 0 → FittingRun s list space s' space'
  pub counted : remainder_refusal list ≡ 0 → count' ≡ length (fitting list space)
  pub kept : Kept (view s) → Kept (view s')

-- The number of events that a run answers, in place of the one that stood there.
abbrev pub counted : ℕ → Result ℕ Refusal → ℕ
counted count (Ok n) = n
counted count (Err _) = count
