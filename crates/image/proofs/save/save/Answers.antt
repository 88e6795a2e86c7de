-- `image::save::save` meets its contract. The state's first bytes are written as an image.
-- Assumes nothing.
use Rattle.std.proofs.Common.{rules}
use Rattle.image.proofs.Laws.Promises.{saved_written}
use Rattle.image.proofs.save.save.Goals as goal

pub returns : goal.returns
returns c =
    let (number, two, written) = c.seal.ensures in
    saved_written (search rules) (rw two at written)
