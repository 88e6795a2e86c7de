-- What the program promises of a whole event: its checks, what it does, and what it tells.
use Rattle.std.specs.Prelude.{◌≡◌, List, ◌∷◌, ℕ, Result, Ok, Err}
use Rattle.translation.specs.Bits.{weight}
use Rattle.refusals.specs.Numbers.{number}
use Rattle.refusals.specs.declared.refusal.Refusal.{Refusal}
use Rattle.machine.specs.Events.{Event, refusal, step, lines, answer}
use Rattle.machine.specs.Kept.{Kept}
use Rattle.state.specs.View.{view, public}
use Rattle.state.specs.Changed.{Changed}
use Rattle.state.specs.declared.told.Told.{Told}

-- The four bytes of an answer that are the event's own: the number of the check that refuses it (0 none), the byte read, 1 if that byte was old, and the
-- mask of lines pulsed.
pub record Own : Type 0 where
  pub refusal : ℕ
  pub read : ℕ
  pub old : ℕ
  pub pulse : ℕ

-- A refused event reads and pulses nothing.
abbrev pub own : Result Told Refusal → Own
own (Ok t) = record { refusal = 0; read = t.read; old = weight 1 t.old; pulse = t.pulse }
own (Err r) = record { refusal = number r; read = 0; old = 0; pulse = 0 }

-- An event's own bytes of the answer, with the lines that the state shows after it, are the nine bytes. A refused event changes no byte.
pub record EventTold (s : List ℕ) (e : Event) (s' : List ℕ) (t : Own) : Type 0 where
  pub change : Changed (λ m. step m e) s s'
  pub answered : (t.refusal ∷ t.read ∷ t.old ∷ lines (public s') t.pulse) ≡ answer (view s) e
  pub unchanged : (refusal (public s) e ≡ 0 → ⊥) → s' ≡ s
  pub kept : Kept (view s) → Kept (view s')
