-- `old_of`: 68 bytes are room for a body of 60 and a trailer.
use Rattle.std.proofs.Common.{◌∙◌, take, arith}
use Rattle.image_bytes.proofs.Laws.Layout.{length-sealed}
use Rattle.image_bytes.proofs.Laws.Seal.{space_refusal-room}
use Rattle.vectors.proofs.Accepted.{accepted}
use Rattle.vectors.proofs.moves.old_of.Goals as goal

pub unwrap-requires : goal.unwrap-requires
unwrap-requires c =
    let long = length-sealed c.seal.ensures.0 (take 60 c.args.image.0) in
    accepted c.seal.result (c.seal.ensures.2.refusal ∙ space_refusal-room _ _ (omega (arith, long)))
