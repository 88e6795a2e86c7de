-- `of`: 72 bytes are room for an image.
use Rattle.std.proofs.Common.{◌∙◌, arith}
use Rattle.image_bytes.proofs.Laws.Seal.{space_refusal-room}
use Rattle.vectors.proofs.Accepted.{accepted}
use Rattle.vectors.proofs.sample.Image.of.Goals as goal

pub unwrap-requires : goal.unwrap-requires
unwrap-requires c = accepted c.save.result (c.save.ensures.refusal ∙ space_refusal-room _ _ (omega arith))
