-- `controller::run::run_last` meets its contract. One event, with none behind it, or nothing that fits.
-- Assumes nothing.
use Rattle.controller.proofs.Laws.Run.{run_last, run-over, both_le}
use Rattle.controller.proofs.run.run_last.Goals as goal

pub returns-then-list-answers : goal.returns-then-list-answers
returns-then-list-answers c =
    let (some, room) = both_le c.if-list-answers.true in
    run_last some room c.run_one.ensures c.requires

pub returns-else-list-answers : goal.returns-else-list-answers
returns-else-list-answers c = run-over c.if-list-answers.false
