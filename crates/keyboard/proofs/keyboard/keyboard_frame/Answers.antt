-- `keyboard::keyboard::keyboard_frame` meets its contract. Each verdict is a case of the definition.
-- Assumes nothing.
use Rattle.machine.specs.Devices.{keyboard_frame}
use Rattle.state.proofs.Laws.Changed.{by_rule, untouched}
use Rattle.keyboard.proofs.keyboard.keyboard_frame.Goals as goal

pub returns-in-Sound : goal.returns-in-Sound
unfolding keyboard_frame
returns-in-Sound c = by_rule c.sound_key.ensures (simp c.in-Sound.is)

pub returns-in-Parity : goal.returns-in-Parity
unfolding keyboard_frame
returns-in-Parity c = by_rule c.damaged_key.ensures (simp c.in-Parity.is)

pub returns-in-Broken : goal.returns-in-Broken
unfolding keyboard_frame
returns-in-Broken c = by_rule c.damaged_key-in-Broken.ensures (simp c.in-Broken.is)

pub returns-in-Noise : goal.returns-in-Noise
unfolding keyboard_frame
returns-in-Noise c = untouched (simp c.in-Noise.is)
