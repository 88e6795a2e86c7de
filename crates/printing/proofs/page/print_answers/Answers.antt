-- `printing::page::print_answers` meets its contract: the header is copied to the front, and the rest of the buffer takes the lines.
-- Assumes nothing.
use native.Mathlib.Omega.{arith}
use lib.ListN.{length-take}
use Rattle.printing.specs.Page.{header}
use Rattle.printing.proofs.Laws.Page.{page_handed_on}
use Rattle.printing.proofs.page.print_answers.Goals as goal

pub slice_bounds-copy_from_slice-end-2 : goal.slice_bounds-copy_from_slice-end-2
slice_bounds-copy_from_slice-end-2 c = simp length-take (omega arith)

pub copy_from_slice-requires : goal.copy_from_slice-requires
copy_from_slice-requires c = simp length-take (omega arith)

pub returns : goal.returns
unfolding header
returns c = page_handed_on _ _ c.args.out.now _ _ (omega arith) c.copy_from_slice.ensures.after c.write_lines.ensures
