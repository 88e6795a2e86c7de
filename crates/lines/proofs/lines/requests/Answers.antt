-- `lines::lines::requests` meets its contract. The tests are those of the two requests.
-- Assumes nothing.
use borrow.Author.Rules.{rules}
use mathlib.Core.Path.{sym, ◌∙◌}
use native.Mathlib.Omega.{arith}
use Rattle.translation.specs.Bits.{nibble}
use Rattle.machine.proofs.Laws.Lines.{mouse_requested, keyboard_requested}
use Rattle.lines.proofs.lines.requests.Goals as goal

pub returns-then-from_mouse : goal.returns-then-from_mouse
returns-then-from_mouse c = (search (mouse_requested), search rules)

pub returns-else-from_mouse : goal.returns-else-from_mouse
returns-else-from_mouse c = (search (keyboard_requested), search rules)

pub returns-else-output_full : goal.returns-else-output_full
unfolding nibble
returns-else-output_full c = (simp (sym c.output_full.ensures ∙ c.if-output_full.false), omega arith)
