-- `keyboard::keyboard::deliver_byte` meets its contract. The two tests are the definition's, in its order.
-- Assumes nothing.
use Rattle.state.proofs.Laws.Changed.{by_rule, untouched}
use Rattle.machine.proofs.Laws.Devices.{byte_delivered_off, byte_delivered-try, byte_delivered-put}
use Rattle.keyboard.proofs.keyboard.deliver_byte.Goals as goal

pub returns-then-swallowed : goal.returns-then-swallowed
returns-then-swallowed c = search (untouched, byte_delivered_off)

pub returns-then-tried : goal.returns-then-tried
returns-then-tried c = search (by_rule, byte_delivered-try)

pub returns-else-tried : goal.returns-else-tried
returns-else-tried c = search (by_rule, byte_delivered-put)
