-- `controller::run::run` meets its contract. Refused, nothing is done; else the whole list has room.
-- Assumes nothing.
use mathlib.Core.Path.{refl}
use Rattle.controller.proofs.Laws.Run.{list_run}
use Rattle.controller.proofs.run.run.Goals as goal

pub returns : goal.returns
returns c = list_run c.in_ok-check_list.ensures refl c.run_fitting.ensures
