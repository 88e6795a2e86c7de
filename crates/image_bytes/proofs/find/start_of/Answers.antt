-- `image_bytes::find::start_of` meets its contract. An image that passes check 10 has the size of its body as its distance.
-- Assumes nothing.
use Rattle.std.proofs.Common.{ap, ◌∙◌, arith}
use Rattle.image_bytes.specs.Find.{distance_of}
use Rattle.image_bytes.proofs.Laws.Find.{sealed_named, body_start_named}
use Rattle.image_bytes.proofs.find.start_of.Goals as goal

pub returns-in_err-front : goal.returns-in_err-front
returns-in_err-front c =
    absurd (omega (arith, (sealed_named c.args.bytes.now c.in_ok-edition.field-0 c.in_ok-edition.ensures).room, c.in_err-front.ensures.cases))

pub overflow_sub-result : goal.overflow_sub-result
overflow_sub-result c =
    let (before, end, long) = c.in_ok-front.ensures.cases in
    let s = sealed_named c.args.bytes.now c.in_ok-edition.field-0 c.in_ok-edition.ensures in
    omega (arith, s.room, long, c.distance_of.ensures ∙ ap distance_of end ∙ s.distance)

pub returns : goal.returns
returns c =
    let (before, end, long) = c.in_ok-front.ensures.cases in
    let s = sealed_named c.args.bytes.now c.in_ok-edition.field-0 c.in_ok-edition.ensures in
    let pointed = c.distance_of.ensures ∙ ap distance_of end ∙ s.distance in (
      omega (arith, body_start_named c.args.bytes.now c.in_ok-edition.field-0 c.in_ok-edition.ensures, long, pointed),
      omega (arith, s.room, long, pointed),
    )
