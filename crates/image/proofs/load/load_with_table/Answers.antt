-- `image::load::load_with_table` meets its contract. Each way through the call has a law that makes the promised record.
-- Assumes nothing.
use Rattle.std.proofs.Common.{rules}
use Rattle.refusals.proofs.Refused.{passed_on}
use Rattle.image.proofs.Laws.Promises.{load_unread, load-other-table, load_stored}
use Rattle.image.proofs.load.load_with_table.Goals as goal

pub returns-in_err-body : goal.returns-in_err-body
returns-in_err-body c = rw (passed_on c.from_residual.result c.from_residual.ensures.1) (load_unread _ _ c.in_err-body.ensures)

pub returns-in_err-start_with_table : goal.returns-in_err-start_with_table
returns-in_err-start_with_table c =
    let same = passed_on c.from_residual-in_err-start_with_table.result c.from_residual-in_err-start_with_table.ensures.1 in
    rw same (load-other-table _ _ c.in_ok-body.ensures _ c.in_err-start_with_table.ensures)

pub returns : goal.returns
returns c =
    load_stored _ _ c.in_ok-body.ensures c.in_ok-start_with_table.ensures (search rules) (λ k. (c.type_inv.table k).fits) (λ k. (c.type_inv.bytes k).fits)
    c.copy_from_slice.ensures.after
