-- `lines::mode::set_mode` meets its contract. The store is the law's.
-- Assumes nothing.
use borrow.Author.Rules.{rules}
use Rattle.machine.proofs.Laws.KeptLines.{with_mode-kept}
use Rattle.state.proofs.Laws.Changed.{kept_where, stored-mode}
use Rattle.lines.proofs.mode.set_mode.Goals as goal

pub returns : goal.returns
returns c = kept_where (stored-mode (search rules)) (λ low k. with_mode-kept k _ low)
