-- `checks::devices::check_end` meets its contract. The checks stand in the definition's order, each test its own.
-- Assumes nothing.
use Rattle.machine.specs.Events.{refusal}
use Rattle.machine.proofs.Laws.Events.{ends_fit, ends-idle, ends_free}
use Rattle.checks.proofs.Laws.{too_large, fits-low}
use Rattle.checks.proofs.devices.check_end.Goals as goal

pub returns-in_err-fits : goal.returns-in_err-fits
unfolding refusal
returns-in_err-fits c =
    let is = c.from_residual.ensures.1 in
    (too_large _ _ _ c.from_residual.result is c.in_err-fits.ensures, too_large _ _ _ c.from_residual.result is c.in_err-fits.ensures)

pub returns-then-input_full : goal.returns-then-input_full
returns-then-input_full c = ends_fit _ _ _ (fits-low c.in_ok-fits.ensures) (search ends_free)

pub returns-else-input_full : goal.returns-else-input_full
returns-else-input_full c = ends_fit _ _ _ (fits-low c.in_ok-fits.ensures) (search ends-idle)
