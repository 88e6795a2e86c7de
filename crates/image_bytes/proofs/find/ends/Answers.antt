-- `image_bytes::find::ends` meets its contract. With bytes enough, its tests are the definition's.
-- Assumes nothing.
use Rattle.std.proofs.Common.{ℕ, ap, ◌∙◌, arith}
use Rattle.image_bytes.specs.Edition.{number}
use Rattle.image_bytes.specs.Find.{ends}
use Rattle.image_bytes.proofs.Laws.Find.{ends_tests}
use Rattle.image_bytes.proofs.find.ends.Goals as goal

pub returns : goal.returns
returns c =
    let (before, end, long) = c.in-Some.ensures.cases in
    ends_tests _ _ _ _ _ _ _ _ _ _ before end long c.if-front-size.false c.marked.ensures c.from.ensures c.distance_of.ensures
    (omega (arith, c.from_le_bytes-stored.ensures))
    c.word_sum-total.ensures
    ∙ ap (λ (n : ℕ). ends (number c.args.edition) n c.args.bytes.now) c.body_size-size.ensures
