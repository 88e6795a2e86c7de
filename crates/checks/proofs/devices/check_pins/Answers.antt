-- `checks::devices::check_pins` meets its contract: the value's check is the one of its kind. Assumes nothing.
use Rattle.machine.specs.Events.{refusal, state_refusal}
use Rattle.checks.proofs.devices.check_pins.Goals as goal

pub returns : goal.returns
unfolding refusal state_refusal
returns c = λ p. c.fits.ensures
