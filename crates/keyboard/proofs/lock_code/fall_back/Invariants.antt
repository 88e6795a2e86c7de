-- `keyboard::lock_code::fall_back` meets its contract. The loop's invariant: no beginning longer than `last` is one that the keys end with.
-- Assumes nothing.
use mathlib.Core.Path.{◌≡◌}
use mathlib.Core.List.{◌∷◌}
use Rattle.machine.specs.Lock.{longest, begun}
use Rattle.state.specs.View.{code_of}
use Rattle.keyboard.proofs.lock_code.fall_back.Given as goal

abbrev pub invariant-loop-last : goal.invariant-loop-last
invariant-loop-last l =
    let code = code_of l.s in longest code l.last (l.x ∷ begun code l.k) ≡ longest code l.k (l.x ∷ begun code l.k)
