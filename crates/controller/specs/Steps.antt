-- What the functions inside this crate promise each other.
use Rattle.std.specs.Prelude.{◌≡◌, ℕ, cond, ◌&&◌, eqb, List, ◌++◌, drop}
use Rattle.machine.specs.State.{Public}
use Rattle.machine.specs.Lines.{status}
use Rattle.machine.specs.Events.{Event, step, answer, refusal}
use Rattle.machine.specs.Kept.{Kept}
use Rattle.state.specs.View.{view, public}
use Rattle.state.specs.Changed.{Changed}
use Rattle.state.specs.Told.{Own}

-- What an event told, with the byte that an accepted read of 64h gives: the status, which the lines have.
abbrev pub with_status : ℕ → Public → Own → Own
with_status kind p t =
    record { refusal = t.refusal; read = cond (eqb kind 2 && eqb t.refusal 0) (status p) t.read; old = t.old; pulse = t.pulse }

-- An event with its answer.
pub record EventReplied (s : List ℕ) (e : Event) (s' reply : List ℕ) : Type 0 where
  pub change : Changed (λ m. step m e) s s'
  pub answered : reply ≡ answer (view s) e
  pub unchanged : (refusal (public s) e ≡ 0 → ⊥) → s' ≡ s
  pub kept : Kept (view s) → Kept (view s')

-- An event whose answer stands at the front of a longer buffer.
pub record EventWritten (s : List ℕ) (e : Event) (space s' space' : List ℕ) : Type 0 where
  pub change : Changed (λ m. step m e) s s'
  pub buffer : space' ≡ answer (view s) e ++ drop 9 space
  pub unchanged : (refusal (public s) e ≡ 0 → ⊥) → s' ≡ s
  pub kept : Kept (view s) → Kept (view s')
