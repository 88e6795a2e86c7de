-- `state::state::started` meets its contract. The bytes stored are those of the fresh machine.
-- Assumes nothing.
use Rattle.state.proofs.Laws.Body.{fresh-started}
use Rattle.state.proofs.state.started.Goals as goal

pub returns : goal.returns
returns c = fresh-started _ c.nibble.ensures.0 c.copy_from_slice.ensures.after
