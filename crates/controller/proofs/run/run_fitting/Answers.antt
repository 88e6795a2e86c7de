-- `controller::run::run_fitting` meets its contract. Each turn of the loop runs a piece of 500 events, the last what is left.
-- Assumes nothing.
use Rattle.std.proofs.Common.{arith, inl, inr, refl, sym, ◌∙◌, ◌≤◌, ◌*◌, length}
use lib.ListN.{length-drop}
use Rattle.machine.proofs.Laws.Run.{fitting_short, fitting_tight}
use Rattle.controller.proofs.Laws.Run.{pieced_start, pieced-next, pieced-end}
use Rattle.controller.proofs.run.run_fitting.Goals as goal

pub loop-turn-init : goal.loop-turn-init
loop-turn-init c =
    rw (c.into_iter-turn-iterator.ensures.into_iter_gives, c.zip-turn-items.ensures.first, c.zip-turn-items.ensures.second, c.chunks.ensures.rest, c.chunks.ensures.size)
    (refl, refl, pieced_start)

pub loop-turn-preserved : goal.loop-turn-preserved
loop-turn-preserved c =
    let (ends, size, so_far) = c.loop-turn.invariant in
    let ((end, (more, at, on)), (same, (cut, long, _))) = c.in-Some.ensures.steps in
    let room : c.in-Some.turn * 4500 ≤ length c.loop-turn.answers = omega (arith, more, at, ends, c.loop-turn.auto.answers) in
    (end ∙ ends, same ∙ size, pieced-next (omega (arith, at, on)) (rw (cut, sym at) at so_far) (rw (size, cut) at long) room c.run_on.auto.answers c.run_on.ensures)

pub returns : goal.returns
returns c =
    let (ends, _, so_far) = c.loop-turn.invariant in
    pieced-end so_far
    (elim c.in-None.ensures.steps [
      | inl over ↦
          let (_, (_, (gap, _))) = over in
          fitting_tight _ _ (simp length-drop (omega (arith, gap, ends, c.loop-turn.auto.answers)))
      | inr over ↦
          let (_, (_, (none, _))) = over in
          fitting_short _ _ (omega (arith, none))
    ])
