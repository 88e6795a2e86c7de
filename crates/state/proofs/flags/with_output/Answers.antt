-- `state::flags::with_output` meets its contract. The law was tested at each byte.
-- Assumes nothing.
use borrow.Author.Rules.{rules}
use Rattle.state.proofs.Laws.Flags.{output-flags}
use Rattle.state.proofs.flags.with_output.Goals as goal

pub returns : goal.returns
returns c = rw (c.weight.ensures.0, c.weight-2.ensures.0) (output-flags _ _ _ (search rules))
