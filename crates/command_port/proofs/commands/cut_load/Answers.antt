-- `command_port::commands::cut_load` meets its contract. The test is the definition's.
-- Assumes nothing.
use Rattle.state.proofs.Laws.Changed.{by_rule, untouched}
use Rattle.machine.proofs.Laws.Commands.{load_cut-load, load_cut-none}
use Rattle.command_port.proofs.commands.cut_load.Goals as goal

pub returns-then-s-eq3 : goal.returns-then-s-eq3
returns-then-s-eq3 c = search (by_rule, load_cut-load)

pub returns-else-s-eq3 : goal.returns-else-s-eq3
returns-else-s-eq3 c = search (untouched, load_cut-none)
