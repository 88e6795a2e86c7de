-- The measure of the cycle in `controller::run` that runs a list, four events to a level: the list's length, and for `run_on`, which runs no event
-- itself, one more.
-- Assumes nothing.
use Rattle.std.proofs.Common.{length, ◌+◌}
use Rattle.controller.proofs.run.+run_fours.Given as goal

abbrev pub decreases-run_first : goal.decreases-run_first
decreases-run_first l = length l.list.now

abbrev pub decreases-run_second : goal.decreases-run_second
decreases-run_second l = length l.list.now

abbrev pub decreases-run_third : goal.decreases-run_third
decreases-run_third l = length l.list.now

abbrev pub decreases-run_fourth : goal.decreases-run_fourth
decreases-run_fourth l = length l.list.now

abbrev pub decreases-run_on : goal.decreases-run_on
decreases-run_on l = length l.list.now + 1
