-- A load of an image of edition 1 is the load of its move: specs/Restored. Assumes nothing.
use mathlib.Core.Path.{◌≡◌, ap, ap₂, sym, ◌∙◌}
use mathlib.Core.Bool.{cond}
use mathlib.Core.List.{List, ◌++◌}
use Prim.Native.Nat.{ℕ}
use native.Mathlib.Omega.{arith}
use lib.ListN.{length, length-append}
use lib.Dec.{eqb}
use Rattle.translation.specs.KeyTable.{table_refusal}
use Rattle.state.specs.View.{given, view}
use Rattle.image_bytes.specs.Checks.{first_of}
use Rattle.image_bytes.specs.Layout.{first_length}
use Rattle.image_bytes.specs.Find.{body_size, found}
use Rattle.image_bytes.proofs.Laws.Find.{length_found}
use Rattle.body_rules.specs.Rules.{body_kept}
use Rattle.editions.specs.Read.{plain_bytes, completed, body_refusal, image_refusal}
use Rattle.editions.specs.Moves.{forward}
use Rattle.editions.proofs.Laws.Read.{completed_1, completed_2, find_refusal_some}
use Rattle.editions.proofs.Laws.Moves.{forward-size, forward-found}
use Rattle.image.specs.Load.{load_refusal, loaded}
use Rattle.image.specs.Restored.{LoadsAsMoved}

module _ (bytes : List ℕ) (one : body_size bytes ≡ first_length) where
  -- what is read of the move is what is read of the image
  same_read : (front : List ℕ) → completed (found bytes) ≡ completed (found (front ++ forward bytes))
  same_read front =
      let long : length (completed (found bytes)) ≡ 64 =
      ap length (completed_1 (found bytes) (length_found bytes ∙ one)) ∙ length-append (found bytes) plain_bytes ∙ omega (arith, length_found bytes, one) in
      sym (ap completed (forward-found bytes front one) ∙ completed_2 _ long)

  same-refusal : (front : List ℕ) → image_refusal bytes ≡ image_refusal (front ++ forward bytes)
  unfolding body_refusal
  same-refusal front =
      let here = find_refusal_some bytes (λ e. omega (arith, e, one)) in
      let there = find_refusal_some (front ++ forward bytes) (λ e. omega (arith, e, forward-size bytes front one)) in
      ap₂ first_of (here ∙ sym there) (ap (λ (b : List ℕ). cond (body_kept b) 0 11) (same_read front))

  same-checks : (table front : List ℕ) → load_refusal table bytes ≡ load_refusal table (front ++ forward bytes)
  unfolding load_refusal
  same-checks table front = ap (λ (n : ℕ). first_of n (table_refusal table)) (same-refusal front)

  pub loads_as_moved : LoadsAsMoved bytes
  unfolding loaded
  loads_as_moved =
      record {
        refusal = same-checks;
        machine = λ version table front m.
            ap₂ (λ (n : ℕ) (b : List ℕ). cond (eqb n 0) (view (b ++ given version table)) m) (same-checks table front) (same_read front);
      }
