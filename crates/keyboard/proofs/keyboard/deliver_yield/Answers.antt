-- `keyboard::keyboard::deliver_yield` meets its contract. A byte yielded and none are the definition's two cases.
-- Assumes nothing.
use Rattle.machine.specs.Devices.{yield_delivered}
use Rattle.state.proofs.Laws.Changed.{by_rule, untouched}
use Rattle.keyboard.proofs.keyboard.deliver_yield.Goals as goal

pub returns-in-Some : goal.returns-in-Some
unfolding yield_delivered
returns-in-Some c = by_rule c.deliver_byte.ensures (simp c.in-Some.is)

pub returns-in_default : goal.returns-in_default
unfolding yield_delivered
returns-in_default c = untouched (simp c.in_default.is)
