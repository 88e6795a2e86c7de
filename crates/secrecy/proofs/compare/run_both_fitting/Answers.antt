-- `secrecy::compare::run_both_fitting` meets its contract. Each run is pinned to the machine of the one start, and the theorem on paired lists gives
-- equal answers.
-- Assumes nothing.
use mathlib.Core.Path.{refl}
use Rattle.refusals.proofs.Refused.{no_zero, passed_on}
use Rattle.secrecy.proofs.Compared.{fitting-refused, fitting_compared}
use Rattle.secrecy.proofs.compare.run_both_fitting.Goals as goal

pub returns-in_err-start_with_table : goal.returns-in_err-start_with_table
returns-in_err-start_with_table c =
    rw (passed_on c.from_residual.result c.from_residual.ensures.1) (fitting-refused c.in_err-start_with_table.ensures (no_zero c.in_err-start_with_table.field-0.0))

pub returns : goal.returns
returns c = fitting_compared c.in_ok-start_with_table.ensures refl c.run_fitting.ensures c.run_fitting-2.ensures
