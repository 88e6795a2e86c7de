-- `printing::hex::two_digits` meets its contract: a byte's halves are below 16, and each is written by its digit.
-- Assumes nothing.
use Rattle.printing.proofs.Laws.Hex.{hex_byte_digits}
use Rattle.printing.proofs.hex.two_digits.Goals as goal

pub returns : goal.returns
returns c = search hex_byte_digits
