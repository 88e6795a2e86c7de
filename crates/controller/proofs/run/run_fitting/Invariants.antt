-- `controller::run::run_fitting` meets its contract. Each turn of the loop runs a piece of 500 events, the last what is left.
-- Assumes nothing.
use Rattle.std.proofs.Common.{◌≡◌, ◌*◌}
use Rattle.controller.proofs.Laws.Run.{Pieced}
use Rattle.controller.proofs.run.run_fitting.Given as goal

abbrev pub invariant-loop-turn : goal.invariant-loop-turn
invariant-loop-turn l =
    (l.turn-iterator.a.end ≡ l.pieces) × (l.turn-iterator.b.size ≡ 1500)
    × Pieced l.initial.s l.list l.initial.answers l.s l.answers l.turn-iterator.b.rest.now (l.turn-iterator.a.start * 4500)
