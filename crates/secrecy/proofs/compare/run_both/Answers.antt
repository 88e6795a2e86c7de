-- `secrecy::compare::run_both` meets its contract. Each run is pinned to the machine from fresh, and the theorem on paired lists gives equal answers.
-- Assumes nothing.
use Rattle.secrecy.proofs.Compared.{compared}
use Rattle.secrecy.proofs.compare.run_both.Goals as goal

pub returns : goal.returns
returns c = compared c.run_with_table-first.ensures c.run_with_table-second.ensures
