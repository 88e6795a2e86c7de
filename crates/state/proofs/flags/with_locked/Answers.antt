-- `state::flags::with_locked` meets its contract. The law was tested at each byte.
-- Assumes nothing.
use borrow.Author.Rules.{rules}
use Rattle.state.proofs.Laws.Flags.{lock_flags}
use Rattle.state.proofs.flags.with_locked.Goals as goal

pub returns : goal.returns
returns c = rw c.weight.ensures.0 (lock_flags _ _ (search rules))
