-- `printing::page::print_page` meets its contract: with no check against the list and room for both, the run leaves the answers in their buffer and the page is
-- made of those. Assumes nothing.
use native.Mathlib.Omega.{arith}
use lib.ListN.{length-take}
use Rattle.printing.proofs.Laws.Page.{none_refuses, none_refuses-within, check_refuses, short_refuses, room_refuses, run_printed}
use Rattle.printing.proofs.page.print_page.Goals as goal

pub returns-in_err-check_list-clause-refusal : goal.returns-in_err-check_list-clause-refusal
returns-in_err-check_list-clause-refusal c =
    check_refuses _ _ _ _ c.from_residual.result c.in_err-check_list.field-0.0 c.from_residual.ensures.1 c.in_err-check_list.ensures

pub overflow_mul-length : goal.overflow_mul-length
overflow_mul-length c = omega (arith, none_refuses-within _ _ c.in_ok-check_list.ensures)

pub overflow_add-length : goal.overflow_add-length
overflow_add-length c = omega (arith, none_refuses-within _ _ c.in_ok-check_list.ensures)

pub returns-then-out-length-clause-refusal : goal.returns-then-out-length-clause-refusal
returns-then-out-length-clause-refusal c = short_refuses _ _ _ _ c.in_ok-check_list.ensures c.if-out-length.true

pub slice_bounds-print_answers-end : goal.slice_bounds-print_answers-end
slice_bounds-print_answers-end c = omega (arith, (none_refuses _ _ c.in_ok-check_list.ensures).1)

pub slice_bounds-print_answers-end-2 : goal.slice_bounds-print_answers-end-2
slice_bounds-print_answers-end-2 c = simp length-take (omega (arith, (none_refuses _ _ c.in_ok-check_list.ensures).1))

pub returns-clause-refusal : goal.returns-clause-refusal
returns-clause-refusal c = room_refuses _ _ _ _ c.in_ok-check_list.ensures c.if-out-length.false

pub returns-clause-written : goal.returns-clause-written
returns-clause-written c = run_printed _ _ _ _ _ _ _ c.in_ok-check_list.ensures c.run_fresh.ensures c.print_answers.ensures
