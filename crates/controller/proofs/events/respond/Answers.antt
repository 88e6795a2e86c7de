-- `controller::events::respond` meets its contract. What the event told and the lines after it are the nine bytes.
-- Assumes nothing.
use mathlib.Core.Path.{◌∙◌}
use borrow.Author.Tests.{ne_eqb}
use Rattle.controller.proofs.Laws.Events.{replied_accepted, replied_refused}
use Rattle.controller.proofs.events.respond.Goals as goal
use Rattle.controller.proofs.events.respond.Goals.{then-kind-eq-READ_STATUS, else-kind-eq-READ_STATUS}

pub returns-after-kind-eq-READ_STATUS : goal.returns-after-kind-eq-READ_STATUS
returns-after-kind-eq-READ_STATUS c =
    replied_accepted c.args.kind c.in-Ok.told c.act.result c.act.ensures c.in-Ok.is c.lines_by_mode.ensures
    (elim c.if-kind-eq-READ_STATUS.branch [
      | then-kind-eq-READ_STATUS w ↦ w.read-is ∙ simp w.if-kind-eq-READ_STATUS.true
      | else-kind-eq-READ_STATUS w ↦ w.read-is ∙ simp (ne_eqb c.args.kind 2 w.if-kind-eq-READ_STATUS.false)
    ])

pub returns-in-Err : goal.returns-in-Err
returns-in-Err c = replied_refused c.args.kind c.in-Err.refusal c.act.result c.act.ensures c.in-Err.is c.into.ensures c.lines_by_mode-in-Err.ensures
