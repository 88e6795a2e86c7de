-- `printing::page::print_list` meets its contract: a list that check 7 refuses has a text of its own. Assumes nothing.
use Rattle.printing.proofs.Laws.Page.{printed_refused}
use Rattle.printing.proofs.page.print_list.Goals as goal

pub returns-in-Err-ListLength : goal.returns-in-Err-ListLength
returns-in-Err-ListLength c =
    let step = c.in-Err-ListLength in
    printed_refused _ _ _ _ _ _ step.field-0 _ _ step.field-0-is step.ensures.refusal step.ensures.unwritten c.print_refused.ensures
