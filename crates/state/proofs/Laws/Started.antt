-- What a start promises, for each way through it. Assumes nothing.
use Prim.Native.Nat.{ℕ, ◌<◌}
use mathlib.Core.Path.{◌≡◌, refl, ap, sym, subst, ◌∙◌}
use mathlib.Core.List.{List}
use lib.ListN.{get_or}
use Rattle.translation.specs.KeyTable.{built_in, table_refusal}
use Rattle.translation.proofs.KeyTable.{built_in-passes, built_in_below}
use Rattle.machine.specs.Settings.{Settings, settings_of}
use Rattle.machine.specs.State.{fresh}
use Rattle.machine.specs.Kept.{Kept}
use Rattle.machine.proofs.Laws.Kept.{fresh_kept}
use Rattle.state.specs.View.{view, state_of}
use Rattle.state.specs.Started.{Started, TableStarted}

-- the bytes of a fresh machine, and what they stand for
abbrev Stored : Settings → List ℕ → Type 0
Stored x s = (s ≡ state_of (fresh x)) × (view s ≡ fresh x)

module _ (options : ℕ) {version : ℕ} {table : List ℕ} (low : version < 256) where
  started : {s : List ℕ} → table_refusal table ≡ 0 → ((b : ℕ) → get_or table b 0 < 256) → Stored (settings_of options version table) s →
      Started (settings_of options version table) s
  started none bytes (stored, seen) =
      record { bytes = stored; machine = seen; kept = subst Kept (sym seen) (fresh_kept (settings_of options version table) (low, none, bytes)) }

  -- with the built-in table
  pub started-built_in : {s : List ℕ} → table ≡ built_in → Stored (settings_of options version table) s → Started (settings_of options version built_in) s
  started-built_in {s} same stored =
      subst (λ (t : List ℕ). Started (settings_of options version t) s) same
      (started (ap table_refusal same ∙ built_in-passes) (subst (λ (t : List ℕ). (b : ℕ) → get_or t b 0 < 256) (sym same) built_in_below) stored)

  -- with a table that the checks accept
  pub started-accepted : {s s' : List ℕ} {number : ℕ} → ((b : ℕ) → get_or table b 0 < 256) → number ≡ table_refusal table → number ≡ 0 →
      Stored (settings_of options version table) s' →
      TableStarted options version table s 0 s'
  started-accepted bytes judged accepted stored =
      let none = sym judged ∙ accepted in
      record { refusal = sym none; refused = λ stands. absurd (stands none); started = λ _. started none bytes stored }

-- with one that they refuse
pub started-refused : {options version : ℕ} {table s : List ℕ} {number : ℕ} → number ≡ table_refusal table → (number ≡ 0 → ⊥) →
    TableStarted options version table s number s
started-refused judged some =
    record { refusal = judged; refused = λ _. refl; started = λ none. absurd (some (judged ∙ none)) }
