-- `data_port::writes::write_cell` meets its contract. The store is the law's; past the RAM nothing is stored.
-- Assumes nothing.
use borrow.Author.Rules.{rules}
use Rattle.state.proofs.Laws.Changed.{stored-none, stored-cell, by_rule}
use mathlib.Core.Path.{refl}
use Rattle.data_port.proofs.writes.write_cell.Goals as goal

pub returns-then-k-lt32 : goal.returns-then-k-lt32
returns-then-k-lt32 c = by_rule (stored-cell (search rules) c.if-k-lt32.true) refl

pub returns-else-k-lt32 : goal.returns-else-k-lt32
returns-else-k-lt32 c = by_rule (stored-none (search rules) c.if-k-lt32.false) refl
