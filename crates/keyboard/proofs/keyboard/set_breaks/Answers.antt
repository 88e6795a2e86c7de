-- `keyboard::keyboard::set_breaks` meets its contract. The store is the law's.
-- Assumes nothing.
use borrow.Author.Rules.{rules}
use Rattle.state.proofs.Laws.Changed.{stored-breaks}
use Rattle.keyboard.proofs.keyboard.set_breaks.Goals as goal

pub returns : goal.returns
returns c = stored-breaks (search rules) c.with_breaks.ensures
