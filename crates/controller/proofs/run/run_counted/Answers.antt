-- `controller::run::run_counted` meets its contract. A list that ends within an event is refused first; else what fits is run, and it is counted.
-- Assumes nothing.
use Rattle.controller.proofs.Laws.Promises.{counted-run}
use Rattle.controller.proofs.run.run_counted.Goals as goal

pub returns : goal.returns
returns c = λ count. counted-run c.if-list-ne0.false c.min-count.ensures c.run_fitting.ensures
