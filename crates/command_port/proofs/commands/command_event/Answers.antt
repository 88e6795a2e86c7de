-- `command_port::commands::command_event` meets its contract. A refused write tells its refusal; an accepted one is decoded and acts.
-- Assumes nothing.
use mathlib.Core.Path.{refl}
use Rattle.state.proofs.Laws.Told.{told_refused}
use Rattle.command_port.proofs.Laws.{command_done}
use Rattle.command_port.proofs.commands.command_event.Goals as goal

pub returns-in_err-check_write : goal.returns-in_err-check_write
returns-in_err-check_write c = told_refused _ c.from_residual.result c.from_residual.ensures.1 c.in_err-check_write.ensures.1

pub returns : goal.returns
returns c =
    let quiet = c.default.ensures in
    command_done c.cut_load.ensures c.decode-decoded.ensures c.command_written.ensures _ (quiet.0, quiet.1.0, refl) c.in_ok-check_write.ensures.1 c.act.ensures
