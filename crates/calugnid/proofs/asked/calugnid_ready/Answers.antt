-- `calugnid::asked::calugnid_ready` meets its contract. An event of value 0 is refused as any other of its kind that is not too large.
-- Assumes nothing.
use mathlib.Core.Path.{◌∙◌}
use Rattle.refusals.proofs.Refused.{ok-zero}
use Rattle.calugnid.proofs.Laws.Asked.{ready_any}
use Rattle.calugnid.proofs.asked.calugnid_ready.Goals as goal

pub returns : goal.returns
returns c = λ value fits. c.is_ok.ensures.value ∙ ok-zero c.check_event.result ∙ ready_any _ _ (rw (c.from.ensures.0, c.from.ensures.1) at c.check_event.ensures) value fits
