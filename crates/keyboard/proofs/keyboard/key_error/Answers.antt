-- `keyboard::keyboard::key_error` meets its contract. The test is the definition's own.
-- Assumes nothing.
use Rattle.state.proofs.Laws.Changed.{by_rule, untouched}
use Rattle.machine.proofs.Laws.Devices.{key_error_off, key_error-on}
use Rattle.keyboard.proofs.keyboard.key_error.Goals as goal

pub returns-then-locked-inhibited : goal.returns-then-locked-inhibited
returns-then-locked-inhibited c = search (untouched, key_error_off)

pub returns : goal.returns
returns c = search (by_rule, key_error-on)
