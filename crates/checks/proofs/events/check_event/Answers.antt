-- `checks::events::check_event` meets its contract. Each kind has its checks; a byte that stands for none is refused by the first.
-- Assumes nothing.
use mathlib.Core.Path.{sym}
use Rattle.std.proofs.lemmas.Result.{err_from_is_err_and}
use Rattle.machine.proofs.Laws.Events.{refusal-kind}
use Rattle.checks.proofs.events.check_event.Goals as goal

pub returns-in_err-try_from : goal.returns-in_err-try_from
returns-in_err-try_from c =
    let p = err_from_is_err_and c.from_residual.result c.from_residual.ensures.1 in
    rw (p.1, p.2, c.in_err-try_from.ensures.0) (sym (refusal-kind _ _ c.in_err-try_from.ensures.1))
