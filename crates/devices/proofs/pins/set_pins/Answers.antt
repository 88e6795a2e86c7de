-- `devices::pins::set_pins` meets its contract. The store is the law's.
-- Assumes nothing.
use borrow.Author.Rules.{rules}
use Rattle.state.proofs.Laws.Changed.{stored-pins}
use Rattle.devices.proofs.pins.set_pins.Goals as goal

pub returns : goal.returns
returns c = stored-pins (search rules)
