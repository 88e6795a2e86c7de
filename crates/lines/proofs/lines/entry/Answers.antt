-- `lines::lines::entry` meets its contract. The key table is the bytes from 65 on.
-- Assumes nothing.
use Rattle.lines.proofs.Laws.Lines.{entry_at}
use Rattle.lines.proofs.lines.entry.Goals as goal

pub returns : goal.returns
returns c = search entry_at
