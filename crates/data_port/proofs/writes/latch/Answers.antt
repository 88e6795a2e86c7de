-- `data_port::writes::latch` meets its contract. The stores are the law's; which lines they hold was picked as in the definition.
-- Assumes nothing.
use borrow.Author.Rules.{rules}
use Rattle.state.proofs.Laws.Changed.{stored-latched}
use Rattle.data_port.proofs.writes.latch.Goals as goal

pub returns : goal.returns
returns c =
    stored-latched (search rules) c.args.v
    c.high_writable-high.ensures
    c.at_mode.ensures
    c.either-p22.ensures
    c.either-p23.ensures
    c.either-p25.ensures
    c.nibble.ensures.0
    c.nibble-2.ensures.0
