-- `state::state::start_with_table` meets its contract. A refused table leaves the state alone.
-- Assumes nothing.
use Rattle.std.proofs.Common.{rules}
use mathlib.Core.Path.{sym, refl}
use Rattle.translation.proofs.KeyTable.{accepted-length}
use Rattle.state.proofs.Laws.Started.{started-accepted}
use Rattle.state.proofs.state.start_with_table.Goals as goal

pub started-requires : goal.started-requires
started-requires c = accepted-length _ (sym c.in_ok-check_table.ensures)

pub returns : goal.returns
returns c = started-accepted _ (search rules) (search rules) c.in_ok-check_table.ensures refl c.started.ensures
