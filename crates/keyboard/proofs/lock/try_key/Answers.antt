-- `keyboard::lock::try_key` meets its contract. The longest beginning that `reach` finds is the whole code exactly if the lock opens by the rule.
-- Assumes nothing.
use Rattle.state.proofs.Laws.Changed.{by_rule, by_two, untouched}
use Rattle.machine.proofs.Laws.Devices.{try-ignored, try-opens, try-moves}
use Rattle.keyboard.proofs.lock.try_key.Goals as goal

pub returns-then-ignored : goal.returns-then-ignored
returns-then-ignored c = search (untouched, try-ignored)

pub returns-then-k-code_length : goal.returns-then-k-code_length
returns-then-k-code_length c = search (by_two, try-opens)

pub returns-else-k-code_length : goal.returns-else-k-code_length
returns-else-k-code_length c = search (by_rule, try-moves)
