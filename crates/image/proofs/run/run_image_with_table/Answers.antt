-- `image::run::run_image_with_table` meets its contract. Each way through the call has a law that makes the promised record.
-- Assumes nothing.
use mathlib.Core.Path.{sym, ◌∙◌}
use Rattle.refusals.proofs.Refused.{no_zero, passed_on}
use Rattle.image.proofs.Laws.Run.{refused-list, refused-room, refused-load, loaded-ran-saved}
use Rattle.image.proofs.run.run_image_with_table.Goals as goal

pub returns-in_err-check_list : goal.returns-in_err-check_list
returns-in_err-check_list c = rw (passed_on c.from_residual.result c.from_residual.ensures.1) (refused-list _ _ _ c.in_err-check_list.ensures)

pub returns-then-saved-lt-IMAGE : goal.returns-then-saved-lt-IMAGE
returns-then-saved-lt-IMAGE c = refused-room _ _ c.in_ok-check_list.ensures c.if-saved-lt-IMAGE.true

pub returns-in_err-load_with_table : goal.returns-in_err-load_with_table
returns-in_err-load_with_table c =
    let same = passed_on c.from_residual-in_err-load_with_table.result c.from_residual-in_err-load_with_table.ensures.1 in
    rw same (refused-load _ _ c.in_ok-check_list.ensures c.if-saved-lt-IMAGE.false _ c.in_err-load_with_table.ensures)

pub returns-in_err-run : goal.returns-in_err-run
returns-in_err-run c = absurd (no_zero c.in_err-run.field-0.0 (c.in_err-run.ensures.refusal ∙ sym c.in_ok-check_list.ensures))

pub returns : goal.returns
returns c = loaded-ran-saved _ _ c.in_ok-check_list.ensures c.if-saved-lt-IMAGE.false c.in_ok-load_with_table.ensures c.in_ok-run.ensures c.save.ensures
