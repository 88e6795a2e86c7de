-- `keyboard::keyboard::damaged_key` meets its contract. The callees' rules follow one another as in the definition.
-- Assumes nothing.
use Rattle.state.proofs.Laws.Changed.{by_four}
use Rattle.keyboard.proofs.keyboard.damaged_key.Goals as goal

pub returns : goal.returns
returns c = search by_four
