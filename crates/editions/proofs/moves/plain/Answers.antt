-- `editions::moves::plain` meets its contract. The last four bytes of a body are compared one by one.
-- Assumes nothing.
use Rattle.std.proofs.Common.{◌≡◌, ℕ, ◌-◌, ◌&&◌, List, length, take, drop, sym, ap, ap₂, ◌∙◌, arith, eqb, eq-eqb, ne_eqb, eqb-true, rules}
use borrow.Author.Tests.{eqb-false}
use lib.Pointwise.{pointwise}
use Rattle.std.specs.List.{ends_with}
use Rattle.translation.proofs.Lists.{take_listed, listed, take_rest}
use Rattle.translation.proofs.Tests.{split, and_one}
use Rattle.body_rules.specs.Body.{options_byte, input_latches_byte, high_latches_byte, time_out_byte}
use Rattle.editions.specs.Read.{plain_bytes}
use Rattle.editions.specs.Moves.{plain}
use Rattle.editions.proofs.moves.plain.Goals as goal

turned : (m n : ℕ) → eqb m n ≡ eqb n m
turned m n =
    split (eqb m n)
    (λ e. e ∙ sym (eq-eqb n m (sym (eqb-true m n e))))
    (λ e. e ∙ sym (ne_eqb n m (λ h. eqb-false m n e (sym h))))

last_four : (b : List ℕ) → length b ≡ 64 → drop (length b - 4) b ≡ listed 60 4 b
last_four b long =
    ap (λ (n : ℕ). drop (n - 4) b) long
    ∙ sym (take_rest 60 b)
    ∙ ap (λ (n : ℕ). take (n - 60) (drop 60 b)) long
    ∙ take_listed 60 4 b (omega (arith, long))

compared : (b : List ℕ) → length b ≡ 64 → ends_with eqb b plain_bytes ≡ plain b
compared b long =
    ap (pointwise eqb plain_bytes) (last_four b long)
    ∙ ap₂ ◌&&◌ (turned 0 (options_byte b))
    (ap₂ ◌&&◌ (turned 0x3F (input_latches_byte b))
    (ap₂ ◌&&◌ (turned 3 (high_latches_byte b)) (and_one (eqb 0 (time_out_byte b)) ∙ turned 0 (time_out_byte b))))

pub returns : goal.returns
returns c = c.ends_with.ensures.value ∙ compared c.args.b.now (search rules)
