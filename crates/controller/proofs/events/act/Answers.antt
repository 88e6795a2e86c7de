-- `controller::events::act` meets its contract. Each kind has its function; a byte that stands for none is refused by the first check.
-- Assumes nothing.
use mathlib.Core.Path.{ap, sym, ◌∙◌}
use Rattle.refusals.specs.Numbers.{number}
use Rattle.machine.proofs.Laws.Events.{refusal-kind}
use Rattle.controller.proofs.Laws.Events.{refused_status}
use Rattle.controller.proofs.events.act.Goals as goal

pub returns-in_err-try_from : goal.returns-in_err-try_from
returns-in_err-try_from c =
    let (unknown, above) = c.in_err-try_from.ensures in
    refused_status c.args.kind _ c.from_residual.result c.from_residual.ensures.1 (ap number unknown ∙ sym (refusal-kind _ _ above))
