-- `trackball_calls::frames::put` meets its contract. The loop's invariant: the frames of the bytes so far are at the front of the places.
-- Assumes nothing.
use Rattle.std.proofs.Common.{◌≡◌, ◌++◌, map, take, drop}
use Rattle.translation.specs.Frames.{frame}
use Rattle.trackball_calls.proofs.frames.put.Given as goal

abbrev pub invariant-loop-i : goal.invariant-loop-i
invariant-loop-i l = l.places ≡ map frame (take l.i l.bytes) ++ drop l.i l.fn.places
