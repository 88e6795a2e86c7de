-- `controller::events::ps2_lines` meets its contract. IBF adds 2 to the status that is shown without it.
-- Assumes nothing.
use mathlib.Core.Path.{◌≡◌, ap, ◌∙◌}
use mathlib.Core.List.{List}
use Prim.Native.Nat.{ℕ, ◌/◌, ◌%◌}
use native.Mathlib.Omega.{arith}
use lib.ListN.{get_or}
use Rattle.state.specs.View.{public}
use Rattle.controller.proofs.Laws.Events.{shown}
use Rattle.controller.proofs.events.ps2_lines.Goals as goal

pub returns : goal.returns
returns c =
    let (is_status, is_port) = c.ps2_shown-shown.ensures.0 c.requires in
    let high : c.sent_frame.result / 256 % 256 ≡ c.sent_frame.result / 256 = omega (arith, c.sent_frame.type_inv) in
    shown (public c.args.s.now) c.ps2_shown-shown.result.status is_status is_port c.weight.ensures.0 c.input_full.ensures c.sent_frame.ensures
    (ap (λ (xs : List ℕ). get_or xs 0 0) c.to_le_bytes.ensures) (ap (λ (xs : List ℕ). get_or xs 1 0) c.to_le_bytes.ensures ∙ high)
