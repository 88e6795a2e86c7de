-- `keyboard::lock::set_position` meets its contract. The store is the law's.
-- Assumes nothing.
use borrow.Author.Rules.{rules}
use Rattle.state.proofs.Laws.Changed.{stored-position}
use Rattle.keyboard.proofs.lock.set_position.Goals as goal

pub returns : goal.returns
returns c = stored-position (search rules)
