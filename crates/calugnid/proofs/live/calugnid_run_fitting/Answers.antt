-- `calugnid::live::calugnid_run_fitting` meets its contract. A refused list leaves the count as it was.
-- Assumes nothing.
use Rattle.calugnid.proofs.live.calugnid_run_fitting.Goals as goal

pub returns-in-Err : goal.returns-in-Err
returns-in-Err c = rw c.into.ensures (c.in-Err.ensures _)
