-- `checks::devices::check_keyboard` meets its contract. Its device off is the definition's test for the kind.
-- Assumes nothing.
use mathlib.Core.Path.{◌∙◌}
use Rattle.machine.specs.Events.{refusal, state_refusal}
use Rattle.checks.proofs.devices.check_keyboard.Goals as goal

pub returns : goal.returns
unfolding refusal state_refusal
returns c = c.check_frame.ensures ∙ simp c.keyboard_off.ensures
