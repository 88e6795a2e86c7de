-- `checks::devices::check_frame` meets its contract. The checks stand in the definition's order, each test its own.
-- Assumes nothing.
use borrow.Author.Tests.{le-ltb}
use Rattle.translation.specs.Bits.{word}
use Rattle.checks.proofs.Laws.{too_large, fits-low}
use Rattle.checks.proofs.devices.check_frame.Goals as goal

pub returns-in_err-fits : goal.returns-in_err-fits
returns-in_err-fits c = too_large _ _ _ c.from_residual.result c.from_residual.ensures.1 c.in_err-fits.ensures

pub returns-then-absent : goal.returns-then-absent
returns-then-absent c =
    let e = c.args.value in
    simp (le-ltb 2047 (word e.low e.high) (fits-low c.in_ok-fits.ensures), c.if-absent.true)

pub returns-then-off-output_full : goal.returns-then-off-output_full
returns-then-off-output_full c =
    let full = c in
    let e = full.args.value in
    simp (
      le-ltb 2047 (word e.low e.high) (fits-low c.in_ok-fits.ensures),
      full.if-absent.false,
      simp (full.output_full.ensures, c.input_full.ensures) at c.if-off-output_full.true,
    )

pub returns-else-off-output_full : goal.returns-else-off-output_full
returns-else-off-output_full c =
    let full = c in
    let e = full.args.value in
    simp (
      le-ltb 2047 (word e.low e.high) (fits-low c.in_ok-fits.ensures),
      full.if-absent.false,
      simp (full.output_full.ensures, c.input_full.ensures) at c.if-off-output_full.false,
    )
