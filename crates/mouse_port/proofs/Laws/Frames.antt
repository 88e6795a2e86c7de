-- A number that is neither framed nor noise is a broken frame. Assumes nothing.
use Prim.Native.Nat.{ℕ}
use mathlib.Core.Path.{◌≡◌}
use mathlib.Core.Logic.{⊎_elim}
use Rattle.translation.specs.Frames.{check, broken}
use Rattle.translation.proofs.Frame.{Framed, FalseStart, check-one}

pub check_unframed : (f : ℕ) → (Framed f → ⊥) → (FalseStart f → ⊥) → check f ≡ broken
check_unframed f unframed started =
    ⊎_elim (λ s. absurd (unframed s.1)) (⊎_elim (λ p. absurd (unframed p.1)) (⊎_elim (λ b. b.0) (λ n. absurd (started n.1))))
    (check-one f)
