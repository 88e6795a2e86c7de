-- Laws of the definitions in specs/Read, and the promised record for each way through the call. Assumes nothing.
use mathlib.Core.Path.{◌≡◌, ap, sym, subst, ◌∙◌}
use mathlib.Core.Bool.{Bool, true, false}
use mathlib.Core.List.{List, ◌++◌, append-nil}
use Prim.Native.Nat.{ℕ, ◌≤◌}
use native.Mathlib.Omega.{arith}
use lib.ListN.{length, drop, replicate, length-append}
use lib.Seq.{take_at, take_all}
use borrow.Author.Tests.{eq-eqb, ne_eqb}
use Rattle.translation.proofs.Tests.{split, and_one, cond_true, cond_false}
use Rattle.translation.proofs.Lists.{listed, take_listed}
use Rattle.std.specs.Prelude.{Ok, Err}
use Rattle.refusals.specs.declared.refusal.Refusal.TheVariants as check
use Rattle.image_bytes.specs.Layout.{first_length, body_length}
use Rattle.image_bytes.specs.Find.{body_size, found}
use Rattle.image_bytes.proofs.Laws.Checks.{first_of-none, first_of_some}
use Rattle.image_bytes.proofs.Laws.Find.{by_size, length_found, body_size_most}
use Rattle.body_rules.specs.Added.{unused_kept, first_set_kept, ps2_kept, second_set_kept, added_kept}
use Rattle.body_rules.specs.Rules.{flags_kept, pending_kept, overlay_kept, sending_kept, code_kept, lock_kept, common_kept, body_kept}
use Rattle.editions.specs.Read.{plain_bytes, completed, find_refusal, body_refusal, image_refusal, BodyRead}

-- ---- completed
module _ (b : List ℕ) where
  pub completed_1 : length b ≡ first_length → completed b ≡ b ++ plain_bytes
  unfolding completed
  completed_1 long = take_all body_length (b ++ plain_bytes) (omega (arith, length-append b plain_bytes))

  pub completed_2 : length b ≡ body_length → completed b ≡ b
  unfolding completed
  completed_2 long = take_at b plain_bytes body_length long

-- ---- body_refusal
-- of a body of edition 1 only the rules of edition 1 are asked, since the four bytes keep theirs
pub body_kept_1 : (b : List ℕ) → length b ≡ first_length → body_kept (completed b) ≡ common_kept b
unfolding body_kept common_kept flags_kept pending_kept overlay_kept sending_kept code_kept lock_kept added_kept unused_kept first_set_kept ps2_kept second_set_kept
body_kept_1 b long =
    let whole : listed 0 60 b ≡ b = sym (take_listed 0 60 b (omega arith)) ∙ take_all 60 b (omega arith) in
    ap body_kept (completed_1 b long)
    ∙ subst (λ (l : List ℕ). body_kept (l ++ plain_bytes) ≡ common_kept l) whole (and_one (common_kept (listed 0 60 b)))

module _ (b : List ℕ) where
  body_refusal-kept : body_kept (completed b) ≡ true → body_refusal b ≡ 0
  unfolding body_refusal
  body_refusal-kept e = cond_true _ _ _ e

  body_refusal-broken : body_kept (completed b) ≡ false → body_refusal b ≡ 11
  unfolding body_refusal
  body_refusal-broken e = cond_false _ _ _ e

-- ---- image_refusal
module _ (bytes : List ℕ) where
  find_refusal-none : body_size bytes ≡ 0 → find_refusal bytes ≡ 10
  unfolding find_refusal
  find_refusal-none e = cond_true _ _ _ (eq-eqb (body_size bytes) 0 e)

  pub find_refusal_some : (body_size bytes ≡ 0 → ⊥) → find_refusal bytes ≡ 0
  unfolding find_refusal
  find_refusal_some some = cond_false _ _ _ (ne_eqb (body_size bytes) 0 some)

  pub image_refusal-none : body_size bytes ≡ 0 → image_refusal bytes ≡ 10
  image_refusal-none e =
      let ten = find_refusal-none e in
      first_of_some (find_refusal bytes) _ (λ z. omega (arith, z, ten)) ∙ ten

  module _ (some : body_size bytes ≡ 0 → ⊥) where
    pub image_refusal-broken : body_kept (completed (found bytes)) ≡ false → image_refusal bytes ≡ 11
    image_refusal-broken e = first_of-none (find_refusal bytes) _ (find_refusal_some some) ∙ body_refusal-broken (found bytes) e

    pub image_refusal-kept : body_kept (completed (found bytes)) ≡ true → image_refusal bytes ≡ 0
    image_refusal-kept e = first_of-none (find_refusal bytes) _ (find_refusal_some some) ∙ body_refusal-kept (found bytes) e

  -- and the other way round
  module _ (z : image_refusal bytes ≡ 0) where
    pub accepted-some : body_size bytes ≡ 0 → ⊥
    accepted-some e = omega (arith, z, image_refusal-none e)

    pub accepted-kept : body_kept (completed (found bytes)) ≡ true
    accepted-kept =
        split (body_kept (completed (found bytes))) (λ e. e) (λ e. absurd (omega (arith, z, image_refusal-broken accepted-some e)))

    pub length-completed : length (completed (found bytes)) ≡ body_length
    length-completed =
        by_size bytes
        (λ e. absurd (accepted-some e))
        (λ e _.
        let long = length_found bytes ∙ e in
        ap length (completed_1 (found bytes) long) ∙ length-append (found bytes) plain_bytes ∙ omega arith)
        (λ e _. let long = length_found bytes ∙ e in ap length (completed_2 (found bytes) long) ∙ long)

-- ---- BodyRead
-- what the program copies a body over
abbrev pub base : List ℕ
base = replicate first_length 0 ++ plain_bytes

-- bytes copied to the front of others
abbrev pub copied : List ℕ → List ℕ → List ℕ
copied s d = s ++ drop (length s) d

copied_completed : (bytes : List ℕ) → (body_size bytes ≡ 0 → ⊥) → copied (found bytes) base ≡ completed (found bytes)
copied_completed bytes some =
    let b = found bytes in
    by_size bytes
    (λ e. absurd (some e))
    (λ e _.
    let long = length_found bytes ∙ e in
    ap (λ (k : ℕ). b ++ drop k base) long ∙ sym (completed_1 b long))
    (λ e _.
    let long = length_found bytes ∙ e in
    ap (λ (k : ℕ). b ++ drop k base) long ∙ append-nil b ∙ sym (completed_2 b long))

module _ (bytes : List ℕ) {part : List ℕ} (here : part ≡ found bytes) where
  size : length part ≡ body_size bytes
  size = ap length here ∙ length_found bytes

  pub part-most : length part ≤ body_length
  part-most = omega (arith, size, body_size_most bytes)

  pub read_none : length part ≡ 0 → BodyRead bytes (Err check.NoImage)
  read_none none = record { refusal = sym (image_refusal-none bytes (sym size ∙ none)); body = tt }

  module _ {body : List ℕ} {kept : Bool} (some : length part ≡ 0 → ⊥) (taken : body ≡ copied part base) (test : kept ≡ body_kept body) where
    there : body_size bytes ≡ 0 → ⊥
    there e = some (size ∙ e)

    same : body ≡ completed (found bytes)
    same = taken ∙ ap (λ (l : List ℕ). copied l base) here ∙ copied_completed bytes there

    judged : kept ≡ body_kept (completed (found bytes))
    judged = test ∙ ap body_kept same

    pub read-broken : kept ≡ false → BodyRead bytes (Err check.BrokenBody)
    read-broken broken = record { refusal = sym (image_refusal-broken bytes there (sym judged ∙ broken)); body = tt }

    pub read_whole : kept ≡ true → BodyRead bytes (Ok body)
    read_whole keeps = record { refusal = sym (image_refusal-kept bytes there (sym judged ∙ keeps)); body = same }
