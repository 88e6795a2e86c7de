-- `devices::mouse::put_from_mouse` meets its contract. The test is the definition's own.
-- Assumes nothing.
use Rattle.state.proofs.Laws.Changed.{by_rule, untouched}
use Rattle.machine.proofs.Laws.Devices.{mouse_put_off, mouse_put-on}
use Rattle.devices.proofs.mouse.put_from_mouse.Goals as goal

pub returns-then-locked-mouse_inhibited : goal.returns-then-locked-mouse_inhibited
returns-then-locked-mouse_inhibited c = search (untouched, mouse_put_off)

pub returns : goal.returns
returns c = search (by_rule, mouse_put-on)
