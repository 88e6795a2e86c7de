-- `devices::mouse::mouse_frame` meets its contract. Each verdict is a case of the definition.
-- Assumes nothing.
use Rattle.machine.specs.Devices.{mouse_frame}
use Rattle.state.proofs.Laws.Changed.{by_rule, untouched}
use Rattle.devices.proofs.mouse.mouse_frame.Goals as goal

pub returns-in-Sound : goal.returns-in-Sound
unfolding mouse_frame
returns-in-Sound c = by_rule c.sound_mouse.ensures (simp c.in-Sound.is)

pub returns-in-Parity : goal.returns-in-Parity
unfolding mouse_frame
returns-in-Parity c = by_rule c.damaged_mouse.ensures (simp c.in-Parity.is)

pub returns-in-Broken : goal.returns-in-Broken
unfolding mouse_frame
returns-in-Broken c = by_rule c.damaged_mouse-in-Broken.ensures (simp c.in-Broken.is)

pub returns-in-Noise : goal.returns-in-Noise
unfolding mouse_frame
returns-in-Noise c = untouched (simp c.in-Noise.is)
