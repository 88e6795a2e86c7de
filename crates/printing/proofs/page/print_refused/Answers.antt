-- `printing::page::print_refused` meets its contract: with ten bytes of room the text is copied to the front, and else nothing is written.
-- Assumes nothing.
use native.Mathlib.Omega.{arith}
use Rattle.printing.specs.Page.{refused_text}
use Rattle.printing.proofs.Laws.Page.{written_none, written_all}
use Rattle.printing.proofs.page.print_refused.Goals as goal

pub returns-then-out-lt10 : goal.returns-then-out-lt10
unfolding refused_text
returns-then-out-lt10 c = search written_none

pub returns : goal.returns
unfolding refused_text
returns c = written_all refused_text c.args.out.now _ (omega arith) c.copy_from_slice.ensures.after
