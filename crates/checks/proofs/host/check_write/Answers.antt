-- `checks::host::check_write` meets its contract. The checks stand in the definition's order, each test its own.
-- Assumes nothing.
use Rattle.machine.specs.Events.{refusal}
use Rattle.machine.proofs.Laws.Events.{writes_fit, writes_busy, writes_locked, writes_free}
use Rattle.checks.proofs.Laws.{too_large, fits-low}
use Rattle.checks.proofs.host.check_write.Goals as goal

pub returns-in_err-fits : goal.returns-in_err-fits
unfolding refusal
returns-in_err-fits c =
    let is = c.from_residual.ensures.1 in
    (too_large _ _ _ c.from_residual.result is c.in_err-fits.ensures, too_large _ _ _ c.from_residual.result is c.in_err-fits.ensures)

pub returns-then-input_full : goal.returns-then-input_full
returns-then-input_full c = writes_fit _ _ _ (fits-low c.in_ok-fits.ensures) (search writes_busy)

pub returns-then-locked : goal.returns-then-locked
returns-then-locked c = writes_fit _ _ _ (fits-low c.in_ok-fits.ensures) (search writes_locked)

pub returns-else-locked : goal.returns-else-locked
returns-else-locked c = writes_fit _ _ _ (fits-low c.in_ok-fits.ensures) (search writes_free)
