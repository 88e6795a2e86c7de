-- `decoding::commands::pending_of` meets its contract. The table of the code computes to the rule's values, entry by entry.
-- Assumes nothing.
use Rattle.translation.proofs.Tests.{tabulated}
use borrow.Author.Rules.{rules}
use Rattle.machine.specs.Commands.{pending_of}
use Rattle.decoding.proofs.commands.pending_of.Goals as goal

pub returns : goal.returns
unfolding pending_of
returns c = tabulated pending_of 256 c.args.c (search rules)
