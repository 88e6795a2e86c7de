-- `image_bytes::seal::seal` meets its contract. With too little space nothing is written; else the body is copied, and its trailer behind it.
-- Assumes nothing.
use Rattle.std.proofs.Common.{arith}
use Rattle.image_bytes.proofs.Laws.Layout.{length-sealed}
use Rattle.image_bytes.proofs.Laws.Seal.{written_short, sealed_written}
use Rattle.image_bytes.proofs.seal.seal.Goals as goal
use Rattle.image_bytes.proofs.seal.seal.Goals.{then-out-lt-TRAILER-via-then-out-lt-TRAILER, then-out-lt-TRAILER-via-else-out-lt-TRAILER+then-out-body}

pub returns-then-out-lt-TRAILER : goal.returns-then-out-lt-TRAILER
returns-then-out-lt-TRAILER g c =
    let n = c.into-number.result in
    let long = length-sealed n c.args.body.now in (
      n,
      c.into-number.ensures,
      written_short _ _
          (elim c.then-out-lt-TRAILER.branch [
            | then-out-lt-TRAILER-via-then-out-lt-TRAILER w ↦ omega (arith, long)
            | then-out-lt-TRAILER-via-else-out-lt-TRAILER+then-out-body w ↦ omega (arith, long)
          ]),
    )

pub returns : goal.returns
returns g c =
    let a = c.args in
    let n = c.into-number.result in (
      n,
      c.into-number.ensures,
      sealed_written n a.body.now a.out.now (omega (arith, length-sealed n a.body.now)) (omega arith) c.copy_from_slice.ensures.after c.trailer-end.ensures
          c.copy_from_slice-2.ensures.after,
    )
