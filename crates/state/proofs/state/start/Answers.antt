-- `state::state::start` meets its contract. The built-in table passes the checks, so that the body rules are kept.
-- Assumes nothing.
use Rattle.state.proofs.Laws.Started.{started-built_in}
use Rattle.state.proofs.state.start.Goals as goal

pub returns : goal.returns
returns c = search started-built_in
