-- `state::flags::with_errors` meets its contract. The law was tested at each byte.
-- Assumes nothing.
use borrow.Author.Rules.{rules}
use Rattle.state.proofs.Laws.Flags.{error_flags}
use Rattle.state.proofs.flags.with_errors.Goals as goal

pub returns : goal.returns
returns c = rw (c.weight.ensures.0, c.weight-2.ensures.0) (error_flags _ _ _ (search rules))
