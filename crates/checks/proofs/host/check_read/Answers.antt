-- `checks::host::check_read` meets its contract: the value's check is the one of its kinds. Assumes nothing.
use Rattle.machine.specs.Events.{refusal, state_refusal}
use Rattle.checks.proofs.host.check_read.Goals as goal

pub returns : goal.returns
unfolding refusal state_refusal
returns c = λ p. (c.fits.ensures, c.fits.ensures)
