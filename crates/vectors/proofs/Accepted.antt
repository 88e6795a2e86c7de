-- A call whose number is 0 is accepted. Assumes nothing.
use mathlib.Core.Path.{◌≡◌, refl}
use Rattle.std.specs.Prelude.{Result, Ok, Err}
use Rattle.std.specs.Result.{IsOk}
use Rattle.refusals.specs.declared.refusal.Refusal.{Refusal}
use Rattle.refusals.specs.Numbers.{outcome}
use Rattle.refusals.proofs.Refused.{no_zero}

pub accepted : {T : Type 0} (r : Result T Refusal) → outcome r ≡ 0 → IsOk r
accepted (Ok _) e = refl
accepted (Err r) e = absurd (no_zero r e)
