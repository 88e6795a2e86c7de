-- `body_rules::rules::code_kept` meets its contract. The two parts that it tests are the code and what comes after it.
-- Assumes nothing.
use Rattle.std.proofs.Common.{rules, take, drop, sym, ap₂, ◌∙◌, le-leb}
use mathlib.Core.Bool.{◌&&◌}
use Rattle.std.proofs.lemmas.Iterator.{YieldsList-from_slice}
use Rattle.std.proofs.lemmas.Iterator.Search.{all_from_yields_List}
use Rattle.translation.proofs.Tests.{and_passed}
use Rattle.body_rules.specs.Body.{length_byte, code_bytes}
use Rattle.body_rules.specs.Rules.{is_zero, nonzero, code_kept}
use Rattle.body_rules.proofs.rules.code_kept.Goals as goal

pub returns : goal.returns
unfolding code_kept
returns c =
    let code = take (length_byte c.args.b.now) (code_bytes c.args.b.now) in
    let after = drop (length_byte c.args.b.now) (code_bytes c.args.b.now) in
    ap₂ ◌&&◌
    (all_from_yields_List nonzero _ _ _ c.all.ensures.ran (YieldsList-from_slice code (cc)) (λ x b q k. search rules))
    (all_from_yields_List is_zero _ _ _ c.all-2.ensures.ran (YieldsList-from_slice after (cc)) (λ x b q k. search rules))
    ∙ sym (and_passed _ _ (le-leb _ _ c.if-count-gt16.false))
