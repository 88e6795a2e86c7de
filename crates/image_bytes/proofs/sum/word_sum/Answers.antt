-- `image_bytes::sum::word_sum` meets its contract. The chain adds up the pairs of bytes, which are the words.
-- Assumes nothing.
use Rattle.std.proofs.Common.{rules, length, ◌/◌, ◌∙◌}
use Rattle.std.specs.Simd.{first_chunks}
use Rattle.std.proofs.lemmas.Iterator.{YieldsList-from_slice}
use Rattle.std.proofs.lemmas.Iterator.Consumers.{fold_from_yields_List}
use Rattle.image_bytes.proofs.Laws.Sum.{added, word_sum-pairs}
use Rattle.image_bytes.proofs.sum.word_sum.Goals as goal

pub returns : goal.returns
returns c =
    let body = c.args.body.now in
    let pairs = first_chunks 2 (length body / 2) body in
    fold_from_yields_List _ added 0 _ c.fold.ensures.ran (YieldsList-from_slice pairs (cc)) (λ a x b q k. search rules) ∙ word_sum-pairs body
