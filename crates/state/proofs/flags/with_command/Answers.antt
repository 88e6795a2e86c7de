-- `state::flags::with_command` meets its contract. The law was tested at each byte.
-- Assumes nothing.
use borrow.Author.Rules.{rules}
use Rattle.state.proofs.Laws.Flags.{command-flags}
use Rattle.state.proofs.flags.with_command.Goals as goal

pub returns : goal.returns
returns c = rw c.weight.ensures.0 (command-flags _ _ (search rules))
