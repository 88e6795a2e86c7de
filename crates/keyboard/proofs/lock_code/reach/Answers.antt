-- `keyboard::lock_code::reach` meets its contract. The next byte of the code is one more, and no longer beginning can be one; else the search finds it.
-- Assumes nothing.
use mathlib.Core.Path.{◌∙◌}
use native.Mathlib.Omega.{arith}
use Rattle.state.proofs.Laws.Lock.{reach-next, reach-back, reach_past}
use Rattle.keyboard.proofs.lock_code.reach.Goals as goal

pub returns-then-n-position : goal.returns-then-n-position
returns-then-n-position c =
    let args = c.args in
    let found = c.fall_back.ensures in
    (found.0 ∙ reach_past args.s.now args.x _ _ c.code_length-n.ensures.0 (omega arith), omega (arith, found.1))

pub returns-then-x-s : goal.returns-then-x-s
returns-then-x-s c =
    let args = c.args in
    (reach-next args.s.now args.x _ (omega arith) c.if-x-s.true, omega arith)

pub returns : goal.returns
returns c =
    let args = c.args in
    let found = c.fall_back-2.ensures in
    (found.0 ∙ reach-back args.s.now args.x _ (omega arith) c.if-x-s.false, omega (arith, found.1))
