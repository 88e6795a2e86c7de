-- `command_port::commands::overlay` meets its contract. The store is the law's.
-- Assumes nothing.
use borrow.Author.Rules.{rules}
use Rattle.state.proofs.Laws.Changed.{stored-overlay}
use Rattle.command_port.proofs.commands.overlay.Goals as goal

pub returns : goal.returns
returns c = stored-overlay (search rules)
