-- Laws of the definitions in specs/Load. Assumes nothing.
use mathlib.Core.Path.{◌≡◌, ap, sym, ◌∙◌}
use mathlib.Core.List.{List, ◌++◌}
use Prim.Native.Nat.{ℕ}
use native.Mathlib.Omega.{arith}
use lib.ListN.{length, drop, length-append}
use lib.Seq.{drop_at, drop-drop, get_or-drop}
use lib.Dec.{eqb}
use borrow.Author.Tests.{eq-eqb, ne_eqb, eqb-true, eqb-false}
use Rattle.translation.specs.KeyTable.{built_in, table_refusal}
use Rattle.translation.proofs.KeyTable.{built_in-passes}
use Rattle.translation.proofs.Tests.{split, cond_true, cond_false}
use Rattle.machine.specs.State.{Machine}
use Rattle.state.specs.View.{state_length, given, at}
use Rattle.image_bytes.proofs.Laws.Checks.{first_of-none, first_of_some, first_of_zero}
use Rattle.editions.specs.Read.{image_refusal}
use Rattle.image.specs.Load.{load_refusal, resumed, loaded}

-- ---- given, behind a body
module _ (b : List ℕ) (long : length b ≡ 64) (version : ℕ) (table : List ℕ) where
  pub length-given : length table ≡ 256 → length (b ++ given version table) ≡ state_length
  length-given whole = length-append b (given version table) ∙ omega arith

  pub drop-given : drop 64 (b ++ given version table) ≡ given version table
  drop-given = drop_at b (given version table) 64 long

  pub version-given : at (b ++ given version table) 64 ≡ version
  version-given = sym (get_or-drop 64 (b ++ given version table) 0 0) ∙ ap (λ (l : List ℕ). at l 0) drop-given

  pub table-given : drop 65 (b ++ given version table) ≡ table
  table-given = sym (drop-drop 1 64 (b ++ given version table)) ∙ ap (drop 1) drop-given

-- ---- load_refusal
module _ (table bytes : List ℕ) where
  pub load_refusal-image : (image_refusal bytes ≡ 0 → ⊥) → load_refusal table bytes ≡ image_refusal bytes
  unfolding load_refusal
  load_refusal-image stands = first_of_some (image_refusal bytes) (table_refusal table) stands

  pub load_refusal-table : image_refusal bytes ≡ 0 → load_refusal table bytes ≡ table_refusal table
  unfolding load_refusal
  load_refusal-table z = first_of-none (image_refusal bytes) (table_refusal table) z

  pub accepted : load_refusal table bytes ≡ 0 → (image_refusal bytes ≡ 0) × (table_refusal table ≡ 0)
  unfolding load_refusal
  accepted z = first_of_zero (image_refusal bytes) (table_refusal table) z

  -- ---- loaded
  module _ (version : ℕ) (m : Machine) where
    -- a refused load leaves the machine as it was
    pub loaded-refused : (load_refusal table bytes ≡ 0 → ⊥) → loaded version table m bytes ≡ m
    unfolding loaded
    loaded-refused stands = cond_false _ _ _ (ne_eqb (load_refusal table bytes) 0 stands)

    pub loaded-accepted : load_refusal table bytes ≡ 0 → loaded version table m bytes ≡ resumed version table bytes
    unfolding loaded
    loaded-accepted z = cond_true _ _ _ (eq-eqb (load_refusal table bytes) 0 z)

-- with the built-in table the image alone can be refused
pub load_refusal-built_in : (bytes : List ℕ) → load_refusal built_in bytes ≡ image_refusal bytes
load_refusal-built_in bytes =
    split (eqb (image_refusal bytes) 0)
    (λ e. let z = eqb-true (image_refusal bytes) 0 e in load_refusal-table built_in bytes z ∙ built_in-passes ∙ sym z)
    (λ e. load_refusal-image built_in bytes (eqb-false (image_refusal bytes) 0 e))
