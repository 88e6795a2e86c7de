-- `keyboard::lock_code::fall_back` meets its contract. The loop's invariant: no beginning longer than `last` is one that the keys end with.
-- Assumes nothing.
use Prim.Native.Nat.{◌+◌, ◌-◌}
use mathlib.Core.Path.{◌≡◌, ◌∙◌}
use native.Mathlib.Omega.{arith}
use Rattle.state.proofs.Laws.Lock.{longest-end, longest-found, longest-other, longest-shorter}
use Rattle.keyboard.proofs.lock_code.fall_back.Goals as goal
use Rattle.keyboard.proofs.lock_code.fall_back.Goals.{else-x-s-via-then-x-s+else-repeats, else-x-s-via-else-x-s}

pub returns-then-repeats : goal.returns-then-repeats
returns-then-repeats c =
    let args = c.args in
    let n = c.loop-last.last in
    let found : n - 1 + 1 ≡ n = omega arith in (
      found
          ∙ longest-found args.s.now _ args.x n (n - 1) (omega arith) (omega arith) c.if-x-s.true c.repeats.ensures c.if-repeats.true
          ∙ c.loop-last.invariant,
      omega arith,
    )

pub loop-last-preserved : goal.loop-last-preserved
loop-last-preserved c =
    let args = c.args in
    let n = c.loop-last.last in
    elim c.else-x-s.branch [
      | else-x-s-via-then-x-s+else-repeats w ↦
          longest-shorter args.s.now _ args.x n (n - 1) (omega arith) (omega arith) w.repeats.ensures w.if-repeats.false ∙ c.loop-last.invariant
      | else-x-s-via-else-x-s w ↦
          longest-other args.s.now _ args.x n (n - 1) (omega arith) (omega arith) w.if-x-s.false ∙ c.loop-last.invariant
    ]

pub returns : goal.returns
returns c =
    (longest-end c.args.s.now _ c.loop-last.last (omega arith) ∙ c.loop-last.invariant, omega arith)
