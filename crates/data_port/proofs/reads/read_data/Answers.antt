-- `data_port::reads::read_data` meets its contract. A refused read tells its refusal; an accepted one the byte, whether it is old, and the buffer is emptied.
-- Assumes nothing.
use mathlib.Core.Path.{refl, sym}
use Rattle.machine.proofs.Laws.Events.{accept_read}
use Rattle.state.proofs.Laws.Changed.{by_rule}
use Rattle.state.proofs.Laws.Told.{told_refused, told_accepted}
use Rattle.data_port.proofs.reads.read_data.Goals as goal

pub returns-in_err-check_read : goal.returns-in_err-check_read
returns-in_err-check_read c = told_refused _ c.from_residual.result c.from_residual.ensures.1 (c.in_err-check_read.ensures _).0

pub returns : goal.returns
returns c =
    told_accepted _ (c.in_ok-check_read.ensures _).0 (refl, simp c.output_full-old.ensures, c.default.ensures.1.1) (by_rule c.empty.ensures (sym (accept_read _ _ refl)))
