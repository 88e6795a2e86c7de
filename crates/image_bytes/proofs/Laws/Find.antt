-- Laws of the definitions in specs/Find. Assumes nothing.
use Rattle.std.proofs.Common.{◌≡◌, ℕ, ◌+◌, ◌-◌, ◌<◌, ◌≤◌, Bool, true, false, ◌&&◌, eqb, leb, List, length, take, drop, sym, refl, ap, ◌∙◌, ap₂, arith, eq-eqb, ne_eqb, eqb-true, le-leb, leb-true}
use borrow.Author.Tests.{lt-leb, eqb-false}
use Rattle.image_bytes.specs.Sum.{word_sum}
use Rattle.image_bytes.specs.declared.edition.Edition.{Edition}
use Rattle.image_bytes.specs.declared.edition.Edition.TheVariants.{First, Second}
use Rattle.image_bytes.specs.Edition.{number, size}
use Rattle.image_bytes.specs.Layout.{first_length, body_length}
use Rattle.image_bytes.specs.Find.{trailer_of, body_of, distance_of, sum_of, edition_of, marked, ends, body_size, found, body_start, further, BodyFound}
use Rattle.translation.proofs.Tests.{split, and_true, and_passed, and_failed, and_both, cond_true, cond_false}
use Rattle.translation.proofs.Lists.{take_rest, length_part}
use Rattle.std.proofs.lemmas.Slice.{between_is}

-- ---- body_of
-- the body as a part of the bytes, from its start to the trailer
pub body_of_part : (n : ℕ) (bytes : List ℕ) → n + 8 ≤ length bytes →
    take (length bytes - 8 - (length bytes - 8 - n)) (drop (length bytes - 8 - n) bytes) ≡ body_of n bytes
body_of_part n bytes h =
    let size : length bytes - 8 - (length bytes - 8 - n) ≡ n = omega arith in
    let start : length bytes - 8 - n ≡ length bytes - (n + 8) = omega arith in
    ap₂ (λ (i j : ℕ). take i (drop j bytes)) size start

-- and the last n bytes of what stands before the trailer
body_of_front : (n : ℕ) (bytes front : List ℕ) → front ≡ take (length bytes - 8) bytes → length front + 8 ≡ length bytes → n ≤ length front →
    take (length front - (length front - n)) (drop (length front - n) front) ≡ body_of n bytes
body_of_front n bytes front before long h =
    let start : length front - n ≡ length bytes - 8 - n = omega arith in
    take_rest (length front - n) front
    ∙ ap₂ (λ (i : ℕ) (l : List ℕ). drop i l) start before
    ∙ sym (between_is bytes (length bytes - 8 - n) (length bytes - 8))
    ∙ body_of_part n bytes (omega arith)

pub length-body_of : (n : ℕ) (bytes : List ℕ) → n + 8 ≤ length bytes → length (body_of n bytes) ≡ n
length-body_of n bytes h = length_part (length bytes - (n + 8)) n bytes (omega arith)

-- ---- ends
pub ends_short : (edition n : ℕ) (bytes : List ℕ) → length bytes < n + 8 → ends edition n bytes ≡ false
unfolding ends
ends_short edition n bytes h = and_failed _ _ (lt-leb (n + 8) (length bytes) h)

-- the tests of a trailer and of what stands before it
pub ends_tests : (edition n : ℕ) (bytes front trailer : List ℕ) (mark : Bool) (number distance stored sum : ℕ) →
    front ≡ take (length bytes - 8) bytes → trailer ≡ trailer_of bytes → length front + 8 ≡ length bytes → n ≤ length front →
    mark ≡ marked trailer →
    number ≡ edition →
    distance ≡ distance_of trailer →
    stored ≡ sum_of trailer →
    sum ≡ word_sum (take (length front - (length front - n)) (drop (length front - n) front)) →
    (mark && (eqb (edition_of trailer) number && (eqb distance n && eqb stored sum))) ≡ ends edition n bytes
unfolding ends
ends_tests edition n bytes front trailer mark number distance stored sum before end long room m e d s t =
    ap₂ ◌&&◌ (m ∙ ap marked end)
    (ap₂ ◌&&◌ (ap₂ eqb (ap edition_of end) e)
    (ap₂ ◌&&◌ (ap (λ (x : ℕ). eqb x n) (d ∙ ap distance_of end))
    (ap₂ eqb (s ∙ ap sum_of end) (t ∙ ap word_sum (body_of_front n bytes front before long room)))))
    ∙ sym (and_passed _ _ (le-leb (n + 8) (length bytes) (omega arith)))

-- what an image that passes check 10 holds
pub record Sealed (edition n : ℕ) (bytes : List ℕ) : Type 0 where
  pub room : n + 8 ≤ length bytes
  pub mark : marked (trailer_of bytes) ≡ true
  pub number : edition_of (trailer_of bytes) ≡ edition
  pub distance : distance_of (trailer_of bytes) ≡ n
  pub total : sum_of (trailer_of bytes) ≡ word_sum (body_of n bytes)

module _ (edition n : ℕ) (bytes : List ℕ) where
  pub ends-sealed : ends edition n bytes ≡ true → Sealed edition n bytes
  unfolding ends
  ends-sealed e =
      let t = trailer_of bytes in
      let a = and_true (leb (n + 8) (length bytes)) _ e in
      let b = and_true (marked t) _ a.1 in
      let c = and_true (eqb (edition_of t) edition) _ b.1 in
      let d = and_true (eqb (distance_of t) n) _ c.1 in
      record {
        room = leb-true _ _ a.0;
        mark = b.0;
        number = eqb-true _ _ c.0;
        distance = eqb-true _ _ d.0;
        total = eqb-true _ _ d.1;
      }

  pub sealed-ends : Sealed edition n bytes → ends edition n bytes ≡ true
  unfolding ends
  sealed-ends s =
      and_both _ _ (le-leb _ _ s.room)
      (and_both _ _ s.mark (and_both _ _ (eq-eqb _ _ s.number) (and_both _ _ (eq-eqb _ _ s.distance) (eq-eqb _ _ s.total))))

-- ---- body_size
-- an image of either edition
pub record Image (bytes : List ℕ) : Type 0 where
  pub edition : ℕ
  pub size : ℕ
  pub counted : body_size bytes ≡ size
  pub parts : Sealed edition size bytes
  pub least : first_length ≤ size
  pub most : size ≤ body_length

module _ (bytes : List ℕ) where
  pub body_size-none : ends 1 first_length bytes ≡ false → ends 2 body_length bytes ≡ false → body_size bytes ≡ 0
  unfolding body_size
  body_size-none e f = cond_false _ _ _ e ∙ cond_false _ _ _ f

  pub body_size_1 : ends 1 first_length bytes ≡ true → body_size bytes ≡ first_length
  unfolding body_size
  body_size_1 e = cond_true _ _ _ e

  pub body_size_2 : ends 1 first_length bytes ≡ false → ends 2 body_length bytes ≡ true → body_size bytes ≡ body_length
  unfolding body_size
  body_size_2 e f = cond_false _ _ _ e ∙ cond_true _ _ _ f

  -- a trailer names one edition
  pub sealed_1 : Sealed 1 first_length bytes → body_size bytes ≡ first_length
  sealed_1 s = body_size_1 (sealed-ends 1 first_length bytes s)

  pub sealed_2 : Sealed 2 body_length bytes → body_size bytes ≡ body_length
  sealed_2 s =
      split (ends 1 first_length bytes)
      (λ e. absurd (omega (arith, s.number, (ends-sealed 1 first_length bytes e).number)))
      (λ e. body_size_2 e (sealed-ends 2 body_length bytes s))

  -- and the other way round
  module _ {A : Type 0} (none : body_size bytes ≡ 0 → A) (one : body_size bytes ≡ first_length → Sealed 1 first_length bytes → A)
      (two : body_size bytes ≡ body_length → Sealed 2 body_length bytes → A) where
    pub by_size : A
    by_size =
        split (ends 1 first_length bytes)
        (λ e. one (body_size_1 e) (ends-sealed 1 first_length bytes e))
        (λ e. split (ends 2 body_length bytes)
        (λ f. two (body_size_2 e f) (ends-sealed 2 body_length bytes f))
        (λ f. none (body_size-none e f)))

  pub size_1 : body_size bytes ≡ first_length → Sealed 1 first_length bytes
  size_1 e = by_size (λ z. absurd (omega arith)) (λ _ s. s) (λ z _. absurd (omega arith))

  pub size_2 : body_size bytes ≡ body_length → Sealed 2 body_length bytes
  size_2 e = by_size (λ z. absurd (omega arith)) (λ z _. absurd (omega arith)) (λ _ s. s)

  pub image_of : (body_size bytes ≡ 0 → ⊥) → Image bytes
  image_of some =
      by_size
      (λ z. absurd (some z))
      (λ e s. record { edition = 1; size = first_length; counted = e; parts = s; least = omega arith; most = omega arith })
      (λ e s. record { edition = 2; size = body_length; counted = e; parts = s; least = omega arith; most = omega arith })

  pub body_size_most : body_size bytes ≤ body_length
  body_size_most = by_size (λ e. omega arith) (λ e _. omega arith) (λ e _. omega arith)

-- ---- found
pub found_sized : (bytes : List ℕ) {n : ℕ} → body_size bytes ≡ n → found bytes ≡ body_of n bytes
unfolding found
found_sized bytes e = ap (λ (k : ℕ). body_of k bytes) e

pub length_found : (bytes : List ℕ) → length (found bytes) ≡ body_size bytes
length_found bytes =
    split (eqb (body_size bytes) 0)
    (λ e. let none = eqb-true (body_size bytes) 0 e in ap length (found_sized bytes none) ∙ sym none)
    (λ e.
    let i = image_of bytes (eqb-false (body_size bytes) 0 e) in
    ap length (found_sized bytes i.counted) ∙ length-body_of i.size bytes i.parts.room ∙ sym i.counted)

-- ---- body_start
pub body_start-none : (bytes : List ℕ) → body_size bytes ≡ 0 → body_start bytes ≡ length bytes
unfolding body_start
body_start-none bytes e = cond_true _ _ _ (eq-eqb (body_size bytes) 0 e)

body_start_some : (bytes : List ℕ) → (body_size bytes ≡ 0 → ⊥) → body_start bytes ≡ length bytes - (body_size bytes + 8)
unfolding body_start
body_start_some bytes some = cond_false _ _ _ (ne_eqb (body_size bytes) 0 some)

-- an edition that was found
module _ (bytes : List ℕ) (e : Edition) (found : size e ≡ body_size bytes) where
  pub sealed_named : Sealed (number e) (size e) bytes
  sealed_named = named e found
    where
      named : (e : Edition) → size e ≡ body_size bytes → Sealed (number e) (size e) bytes
      named First h = size_1 bytes (sym h)
      named Second h = size_2 bytes (sym h)

  -- the trailer points back to the start
  pub body_start_named : body_start bytes ≡ length bytes - 8 - size e
  body_start_named =
      body_start_some bytes (λ z. least e (found ∙ z)) ∙ omega (arith, found)
    where
      least : (e : Edition) → size e ≡ 0 → ⊥
      least First z = omega arith
      least Second z = omega arith

-- a start that was found: the length exactly where check 10 refuses the bytes
module _ (bytes : List ℕ) {start : ℕ} (here : start ≡ body_start bytes) where
  pub past_none : start ≡ length bytes → body_size bytes ≡ 0
  past_none past =
      split (eqb (body_size bytes) 0) (λ e. eqb-true _ 0 e)
      (λ e.
      let some = eqb-false (body_size bytes) 0 e in
      let i = image_of bytes some in
      absurd (omega (arith, past, here, body_start_some bytes some, i.counted, i.least, i.parts.room)))

  module _ (before : start ≡ length bytes → ⊥) where
    start-some : body_size bytes ≡ 0 → ⊥
    start-some none = before (here ∙ body_start-none bytes none)

    pub start-room : (start ≡ length bytes - 8 - body_size bytes) × (body_size bytes + 8 ≤ length bytes)
    start-room =
        let i = image_of bytes start-some in
        (here ∙ body_start_some bytes start-some ∙ omega arith, omega (arith, i.counted, i.parts.room))

-- ---- BodyFound, with the place of the part as the rule of a part gives it
module _ {bytes : List ℕ} {lent : ℕ × ℕ} {start : ℕ} (here : start ≡ body_start bytes) where
  pub found_nowhere : {place : ℕ × ℕ} → start ≡ length bytes → place ≡ further lent start →
      BodyFound bytes lent (take (length bytes - start) (drop start bytes)) place
  found_nowhere past at =
      let none : length bytes - start ≡ 0 = omega arith in
      record {
        contents = ap (λ (k : ℕ). take k (drop start bytes)) none ∙ sym (found_sized bytes (past_none bytes here past));
        start = at ∙ ap (further lent) here;
      }

  pub found_there : {place : ℕ × ℕ} → (start ≡ length bytes → ⊥) → place ≡ further lent start →
      BodyFound bytes lent (take (length bytes - 8 - start) (drop start bytes)) place
  found_there before at =
      let (back, enough) = start-room bytes here before in
      record {
        contents =
            ap (λ (k : ℕ). take (length bytes - 8 - k) (drop k bytes)) back
            ∙ body_of_part (body_size bytes) bytes enough ∙ sym (found_sized bytes refl);
        start = at ∙ ap (further lent) here;
      }
