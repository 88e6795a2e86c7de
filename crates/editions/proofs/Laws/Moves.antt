-- Laws of the definitions in specs/Moves: the promised record for each way through the calls, and that there and back gives the same bytes.
-- Assumes nothing.
use mathlib.Core.Path.{◌≡◌, refl, ap, ap₂, sym, subst, ◌∙◌}
use mathlib.Core.Bool.{Bool, true, false}
use mathlib.Core.List.{List, [], ◌∷◌, ◌++◌}
use Prim.Native.Nat.{ℕ, ◌+◌}
use native.Mathlib.Omega.{arith}
use lib.ListN.{length, take, drop, length-append, length-take, length-drop, take-append-drop}
use lib.Seq.{take_at, take_all}
use lib.Dec.{eqb}
use borrow.Author.Tests.{eq-eqb, ne_eqb, eqb-true, eqb-false}
use Rattle.translation.proofs.Tests.{split, and_true, cond_true, cond_false}
use Rattle.translation.proofs.Lists.{listed, take_listed, Below}
use Rattle.refusals.specs.declared.refusal.Refusal.{Refusal}
use Rattle.refusals.specs.declared.refusal.Refusal.TheVariants.{OtherSettings}
use Rattle.refusals.specs.Numbers.{number}
use Rattle.refusals.proofs.Refused.{no_zero}
use Rattle.image_bytes.specs.Checks.{first_of}
use Rattle.image_bytes.specs.Layout.{first_length, body_length, image_length, sealed}
use Rattle.image_bytes.specs.Seal.{space_refusal, Written}
use Rattle.image_bytes.specs.Find.{body_size, found}
use Rattle.image_bytes.proofs.Laws.Checks.{first_of-none, first_of_some, first_of_zero, first_of-assoc, first_of_stands}
use Rattle.image_bytes.proofs.Laws.Layout.{length-sealed}
use Rattle.image_bytes.proofs.Laws.Seal.{image_written-refused, image_written-room}
use Rattle.image_bytes.proofs.Laws.Find.{sealed_1, sealed_2, size_1, size_2, found_sized, length_found}
use Rattle.image_bytes.proofs.Laws.Trailer.{body_of-sealed, sealed-trailer, last_bytes-sealed}
use Rattle.body_rules.specs.Rules.{body_kept}
use Rattle.body_rules.specs.Body.{options_byte, input_latches_byte, high_latches_byte, time_out_byte}
use Rattle.editions.specs.Read.{plain_bytes, completed, image_refusal}
use Rattle.editions.specs.Moves.{forward, back, edition_refusal, plain, settings_refusal, forward_refusal, back_refusal, Moved}
use Rattle.editions.specs.Moves.{ForwardAndBack, BackAndForward}
use Rattle.editions.proofs.Laws.Read.{completed_1, completed_2, length-completed, image_refusal-kept, accepted-kept}

-- ---- edition_refusal, settings_refusal
module _ (n : ℕ) (bytes : List ℕ) where
  edition_refusal-same : body_size bytes ≡ n → edition_refusal n bytes ≡ 0
  unfolding edition_refusal
  edition_refusal-same e = cond_true _ _ _ (eq-eqb (body_size bytes) n e)

  edition_refusal-other : (body_size bytes ≡ n → ⊥) → edition_refusal n bytes ≡ 10
  unfolding edition_refusal
  edition_refusal-other other = cond_false _ _ _ (ne_eqb (body_size bytes) n other)

-- and the other way round
edition_refusal_zero : (n : ℕ) (bytes : List ℕ) → edition_refusal n bytes ≡ 0 → body_size bytes ≡ n
edition_refusal_zero n bytes z =
    split (eqb (body_size bytes) n)
    (λ e. eqb-true (body_size bytes) n e)
    (λ e. absurd (omega (arith, z, edition_refusal-other n bytes (eqb-false (body_size bytes) n e))))

settings_refusal-plain : (b : List ℕ) → plain b ≡ true → settings_refusal b ≡ 0
unfolding settings_refusal
settings_refusal-plain b e = cond_true _ _ _ e

settings_refusal-other : (b : List ℕ) → plain b ≡ false → settings_refusal b ≡ 16
unfolding settings_refusal
settings_refusal-other b e = cond_false _ _ _ e

-- ---- plain
plain-bytes : (b : List ℕ) → length b ≡ body_length → plain b ≡ true → b ≡ take first_length b ++ plain_bytes
plain-bytes b long e =
    let e0 = and_true (eqb (options_byte b) 0) _ e in
    let e1 = and_true (eqb (input_latches_byte b) 0x3F) _ e0.1 in
    let e2 = and_true (eqb (high_latches_byte b) 3) _ e1.1 in
    let b0 = eqb-true (options_byte b) 0 e0.0 in
    let b1 = eqb-true (input_latches_byte b) 0x3F e1.0 in
    let b2 = eqb-true (high_latches_byte b) 3 e2.0 in
    let b3 = eqb-true (time_out_byte b) 0 e2.1 in
    let four : listed 60 4 b ≡ plain_bytes = λ i. b0 i ∷ b1 i ∷ b2 i ∷ b3 i ∷ [] in
    let end : drop 60 b ≡ plain_bytes =
    sym (take_all 4 (drop 60 b) (simp length-drop (omega arith))) ∙ take_listed 60 4 b (omega arith) ∙ four in
    sym (take-append-drop 60 b) ∙ ap (λ (l : List ℕ). take 60 b ++ l) end

plain-added : (b : List ℕ) → length b ≡ first_length → plain (b ++ plain_bytes) ≡ true
plain-added b long =
    let whole : listed 0 60 b ≡ b = sym (take_listed 0 60 b (omega arith)) ∙ take_all 60 b (omega arith) in
    subst (λ (l : List ℕ). plain (l ++ plain_bytes) ≡ true) whole refl

-- ---- forward, back: what is found in them, behind whatever bytes
module _ (bytes front : List ℕ) where
  module _ (one : body_size bytes ≡ first_length) where
    first-long : length (found bytes) ≡ first_length
    first-long = length_found bytes ∙ one

    added : completed (found bytes) ≡ found bytes ++ plain_bytes
    added = completed_1 (found bytes) first-long

    added-long : length (completed (found bytes)) ≡ body_length
    added-long = ap length added ∙ length-append (found bytes) plain_bytes ∙ omega (arith, first-long)

    pub forward-size : body_size (front ++ forward bytes) ≡ body_length
    unfolding forward
    forward-size = sealed_2 (front ++ forward bytes) (sealed-trailer 2 body_length front (completed (found bytes)) added-long (omega arith))

    pub forward-found : found (front ++ forward bytes) ≡ completed (found bytes)
    unfolding forward
    forward-found = found_sized (front ++ forward bytes) forward-size ∙ body_of-sealed 2 body_length front (completed (found bytes)) added-long

  module _ (two : body_size bytes ≡ body_length) where
    second-long : length (found bytes) ≡ body_length
    second-long = length_found bytes ∙ two

    front_long : length (take first_length (found bytes)) ≡ first_length
    front_long = length-take first_length (found bytes) ∙ omega (arith, second-long)

    pub back-size : body_size (front ++ back bytes) ≡ first_length
    unfolding back
    back-size = sealed_1 (front ++ back bytes) (sealed-trailer 1 first_length front (take first_length (found bytes)) front_long (omega arith))

    pub back_found : found (front ++ back bytes) ≡ take first_length (found bytes)
    unfolding back
    back_found = found_sized (front ++ back bytes) back-size ∙ body_of-sealed 1 first_length front (take first_length (found bytes)) front_long

pub length-forward : (bytes : List ℕ) → body_size bytes ≡ first_length → length (forward bytes) ≡ image_length
unfolding forward
length-forward bytes one = length-sealed 2 (completed (found bytes)) ∙ omega (arith, added-long bytes [] one)

length_back : (bytes : List ℕ) → body_size bytes ≡ body_length → length (back bytes) ≡ first_length + 8
unfolding back
length_back bytes two = length-sealed 1 (take first_length (found bytes)) ∙ omega (arith, front_long bytes [] two)

-- ---- forward_refusal, back_refusal
module _ (bytes space : List ℕ) (z : image_refusal bytes ≡ 0) where
  forward-space : body_size bytes ≡ first_length → forward_refusal bytes space ≡ space_refusal (length (forward bytes)) space
  unfolding forward_refusal
  forward-space one =
      first_of-none (edition_refusal first_length bytes) _ (edition_refusal-same first_length bytes one) ∙ first_of-none (image_refusal bytes) _ z

  module _ (two : body_size bytes ≡ body_length) where
    back-checked : back_refusal bytes space ≡ first_of (settings_refusal (found bytes)) (space_refusal (length (back bytes)) space)
    unfolding back_refusal
    back-checked =
        first_of-none (edition_refusal body_length bytes) _ (edition_refusal-same body_length bytes two) ∙ first_of-none (image_refusal bytes) _ z

    back-settings : plain (found bytes) ≡ false → back_refusal bytes space ≡ 16
    back-settings e =
        let sixteen = settings_refusal-other (found bytes) e in
        back-checked ∙ first_of_some (settings_refusal (found bytes)) _ (λ n. omega (arith, n, sixteen)) ∙ sixteen

    back-space : plain (found bytes) ≡ true → back_refusal bytes space ≡ space_refusal (length (back bytes)) space
    back-space e = back-checked ∙ first_of-none (settings_refusal (found bytes)) _ (settings_refusal-plain (found bytes) e)

-- ---- Moved
moved-refused : (image space : List ℕ) {check : ℕ} (r : Refusal) → number r ≡ check → Moved image check space (number r) space
moved-refused image space r e =
    record { refusal = e; refused = λ _. refl; moved = λ z. absurd (no_zero r (e ∙ z)) }

-- only space can be wanting, and this is what was written
moved_written : {image space space' : List ℕ} {check n : ℕ} → check ≡ space_refusal (length image) space → Written image space n space' →
    Moved image check space n space'
moved_written {image} {space} last w =
    record {
      refusal = w.refusal ∙ sym last;
      refused = λ stands. w.bytes ∙ image_written-refused image space (λ z. stands (last ∙ z));
      moved = λ z. w.bytes ∙ image_written-room image space (sym last ∙ z);
    }

-- what stands before the last checks of a move of an image whose body has n bytes
abbrev pub taken_refusal : ℕ → List ℕ → ℕ
taken_refusal n bytes = first_of (edition_refusal n bytes) (image_refusal bytes)

pub taken_long : (n : ℕ) (bytes : List ℕ) {body : List ℕ} → body ≡ completed (found bytes) → 0 ≡ taken_refusal n bytes → length body ≡ body_length
taken_long n bytes read taken = ap length read ∙ length-completed bytes (first_of_zero (edition_refusal n bytes) _ (sym taken)).1

module _ (bytes space : List ℕ) where
  pub forward-untaken : (r : Refusal) → number r ≡ taken_refusal first_length bytes → Moved (forward bytes) (forward_refusal bytes space) space (number r) space
  unfolding forward_refusal
  forward-untaken r e = moved-refused (forward bytes) space r (first_of_stands r e _ ∙ sym (first_of-assoc _ _ _))

  pub back-untaken : (r : Refusal) → number r ≡ taken_refusal body_length bytes → Moved (back bytes) (back_refusal bytes space) space (number r) space
  unfolding back_refusal
  back-untaken r e = moved-refused (back bytes) space r (first_of_stands r e _ ∙ sym (first_of-assoc _ _ _))

  module _ {body : List ℕ} (read : body ≡ completed (found bytes)) where
    pub forward-written : {edition : ℕ} {space' : List ℕ} {k : ℕ} → 0 ≡ taken_refusal first_length bytes → edition ≡ 2 →
        Written (sealed edition body) space k space' →
        Moved (forward bytes) (forward_refusal bytes space) space k space'
    unfolding forward
    forward-written {space' = space'} {k = k} taken second w =
        let (same, z) = first_of_zero _ _ (sym taken) in
        moved_written (forward-space bytes space z (edition_refusal_zero first_length bytes same))
        (subst (λ (l : List ℕ). Written l space k space') (ap₂ sealed second read) w)

    -- a body of edition 2 was read as it is
    module _ (taken : 0 ≡ taken_refusal body_length bytes) where
      two : body_size bytes ≡ body_length
      two = edition_refusal_zero body_length bytes (first_of_zero _ _ (sym taken)).0

      accepted : image_refusal bytes ≡ 0
      accepted = (first_of_zero (edition_refusal body_length bytes) _ (sym taken)).1

      whole : body ≡ found bytes
      whole = read ∙ completed_2 (found bytes) (length_found bytes ∙ two)

      pub back-other-settings : {t : Bool} → t ≡ plain body → t ≡ false → Moved (back bytes) (back_refusal bytes space) space 16 space
      back-other-settings test other =
          moved-refused (back bytes) space OtherSettings (sym (back-settings bytes space accepted two (ap plain (sym whole) ∙ sym test ∙ other)))

      pub back-written : {t : Bool} {edition : ℕ} {space' : List ℕ} {k : ℕ} → t ≡ plain body → t ≡ true → edition ≡ 1 →
          Written (sealed edition (take first_length body)) space k space' →
          Moved (back bytes) (back_refusal bytes space) space k space'
      unfolding back
      back-written {space' = space'} {k = k} test same first w =
          moved_written (back-space bytes space accepted two (ap plain (sym whole) ∙ sym test ∙ same))
          (subst (λ (l : List ℕ). Written l space k space') (ap₂ sealed first (ap (take first_length) whole)) w)

-- ---- there and back
module _ (bytes : List ℕ) (bound : Below 256 bytes) (z : image_refusal bytes ≡ 0) where
  module _ (one : body_size bytes ≡ first_length) where
    first : take first_length (completed (found bytes)) ≡ found bytes
    first = ap (take first_length) (added bytes [] one) ∙ take_at (found bytes) plain_bytes first_length (first-long bytes [] one)

    pub forward-and-back : ForwardAndBack bytes
    unfolding back
    forward-and-back =
        record {
          goes = λ space. forward-space bytes space z one ∙ ap (λ (n : ℕ). space_refusal n space) (length-forward bytes one);
          comes = λ front space.
              let there = front ++ forward bytes in
              let size = forward-size bytes front one in
              let here = forward-found bytes front one in
              let known : image_refusal there ≡ 0 =
              image_refusal-kept there (λ e. omega (arith, e, size))
              (ap (λ (b : List ℕ). body_kept (completed b)) here ∙ ap body_kept (completed_2 _ (added-long bytes front one)) ∙ accepted-kept bytes z) in
              back-space there space known size (ap plain (here ∙ added bytes front one) ∙ plain-added (found bytes) (first-long bytes front one))
              ∙ ap (λ (n : ℕ). space_refusal n space) (length_back there size);
          same = λ front.
              ap (λ (b : List ℕ). sealed 1 (take first_length b)) (forward-found bytes front one)
              ∙ ap (sealed 1) (first ∙ found_sized bytes one)
              ∙ sym (last_bytes-sealed 1 first_length bytes (size_1 bytes one) bound);
        }

  module _ (two : body_size bytes ≡ body_length) (settings : plain (found bytes) ≡ true) where
    again : completed (take first_length (found bytes)) ≡ found bytes
    again =
        completed_1 (take first_length (found bytes)) (front_long bytes [] two)
        ∙ sym (plain-bytes (found bytes) (second-long bytes [] two) settings)

    pub back-and-forward : BackAndForward bytes
    unfolding forward
    back-and-forward =
        record {
          goes = λ space. back-space bytes space z two settings ∙ ap (λ (n : ℕ). space_refusal n space) (length_back bytes two);
          comes = λ front space.
              let there = front ++ back bytes in
              let size = back-size bytes front two in
              let here : completed (found there) ≡ completed (found bytes) =
              ap completed (back_found bytes front two) ∙ again ∙ sym (completed_2 (found bytes) (second-long bytes front two)) in
              let known : image_refusal there ≡ 0 = image_refusal-kept there (λ e. omega (arith, e, size)) (ap body_kept here ∙ accepted-kept bytes z) in
              forward-space there space known size ∙ ap (λ (n : ℕ). space_refusal n space) (length-forward there size);
          same = λ front.
              ap (λ (b : List ℕ). sealed 2 (completed b)) (back_found bytes front two)
              ∙ ap (sealed 2) (again ∙ found_sized bytes two)
              ∙ sym (last_bytes-sealed 2 body_length bytes (size_2 bytes two) bound);
        }
