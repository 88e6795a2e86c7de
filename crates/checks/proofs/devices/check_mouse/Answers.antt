-- `checks::devices::check_mouse` meets its contract. AT mode, and its device off, are the definition's tests for the kind.
-- Assumes nothing.
use mathlib.Core.Path.{◌∙◌}
use Rattle.machine.specs.Events.{refusal, state_refusal}
use Rattle.checks.proofs.devices.check_mouse.Goals as goal

pub returns : goal.returns
unfolding refusal state_refusal
returns c = c.check_frame.ensures ∙ simp (c.mouse_off.ensures, c.at_mode.ensures)
