-- `state::flags::with_breaks` meets its contract. The law was tested at each byte.
-- Assumes nothing.
use borrow.Author.Rules.{rules}
use Rattle.state.proofs.Laws.Flags.{break_flags}
use Rattle.state.proofs.flags.with_breaks.Goals as goal

pub returns : goal.returns
returns c = rw c.weight.ensures.0 (break_flags _ _ (search rules))
