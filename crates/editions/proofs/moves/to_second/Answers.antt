-- `editions::moves::to_second` meets its contract. Each way through the call has a law that makes the promised record.
-- Assumes nothing.
use Rattle.std.proofs.lemmas.Result.{err_from_is_err_and}
use Rattle.editions.proofs.Laws.Moves.{forward-untaken, forward-written}
use Rattle.editions.proofs.moves.to_second.Goals as goal

pub returns-in_err-body : goal.returns-in_err-body
returns-in_err-body c =
    let p = err_from_is_err_and c.from_residual.result c.from_residual.ensures.1 in
    rw (p.1, p.2) (forward-untaken _ _ _ c.in_err-body.ensures.refusal)

pub returns : goal.returns
returns c =
    let (edition, second, written) = c.seal.ensures in
    forward-written _ _ c.in_ok-body.ensures.body c.in_ok-body.ensures.refusal second written
