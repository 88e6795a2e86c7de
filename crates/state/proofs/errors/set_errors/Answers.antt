-- `state::errors::set_errors` meets its contract. The stores are the law's.
-- Assumes nothing.
use borrow.Author.Rules.{rules}
use Rattle.machine.proofs.Laws.KeptDevices.{errors_set-kept}
use Rattle.state.proofs.Laws.Changed.{kept-change, stored-errors}
use Rattle.state.proofs.errors.set_errors.Goals as goal

pub returns : goal.returns
returns c = kept-change (stored-errors (search rules) c.with_errors.ensures) (λ k. errors_set-kept k _ _)
