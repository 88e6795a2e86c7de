-- `keyboard::lock::clear_lock` meets its contract. The stores are the law's.
-- Assumes nothing.
use borrow.Author.Rules.{rules}
use Rattle.state.proofs.Laws.Changed.{stored-lock_cleared}
use Rattle.keyboard.proofs.lock.clear_lock.Goals as goal

pub returns : goal.returns
returns c = stored-lock_cleared (search rules) c.with_locked.ensures
