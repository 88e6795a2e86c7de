-- `editions::moves::to_first` meets its contract. Each way through the call has a law that makes the promised record.
-- Assumes nothing.
use Rattle.std.proofs.Common.{arith, length-take}
use Rattle.std.proofs.lemmas.Result.{err_from_is_err_and}
use Rattle.editions.proofs.Laws.Moves.{taken_long, back-untaken, back-other-settings, back-written}
use Rattle.editions.proofs.moves.to_first.Goals as goal

pub returns-in_err-body : goal.returns-in_err-body
returns-in_err-body c =
    let p = err_from_is_err_and c.from_residual.result c.from_residual.ensures.1 in
    rw (p.1, p.2) (back-untaken _ _ _ c.in_err-body.ensures.refusal)

pub returns-then-not-plain : goal.returns-then-not-plain
returns-then-not-plain c =
    back-other-settings _ _ c.in_ok-body.ensures.body c.in_ok-body.ensures.refusal c.plain.ensures c.if-not-plain.true

pub slice_bounds-seal-end : goal.slice_bounds-seal-end
slice_bounds-seal-end c = simp length-take (omega (arith, taken_long _ c.args.bytes.now c.in_ok-body.ensures.body c.in_ok-body.ensures.refusal))

pub returns : goal.returns
returns c =
    let (edition, first, written) = c.seal.ensures in
    back-written _ _ c.in_ok-body.ensures.body c.in_ok-body.ensures.refusal c.plain.ensures c.if-not-plain.false first written
