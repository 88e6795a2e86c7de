-- The cycle of `controller::run` that runs a list, four events to a level, meets its contracts. One event, and what the call on the rest promises, make
-- the run.
-- Assumes nothing.
use native.Mathlib.Omega.{arith}
use Rattle.controller.proofs.Laws.Run.{run_rest, run-over}
use Rattle.controller.proofs.run.+run_fours.Goals as goal

pub run_first-returns : goal.run_first-returns
run_first-returns t c = run_rest (omega arith) (omega arith) c.run_one.ensures c.run_second.ensures

pub run_second-returns : goal.run_second-returns
run_second-returns t c = run_rest (omega arith) (omega arith) c.run_one.ensures c.run_third.ensures

pub run_third-returns : goal.run_third-returns
run_third-returns t c = run_rest (omega arith) (omega arith) c.run_one.ensures c.run_fourth.ensures

pub run_fourth-returns : goal.run_fourth-returns
run_fourth-returns t c = run_rest (omega arith) (omega arith) c.run_one.ensures c.run_on.ensures

pub run_on-returns-else-list-answers-2 : goal.run_on-returns-else-list-answers-2
run_on-returns-else-list-answers-2 t c = run-over c.if-list-answers-2.false
