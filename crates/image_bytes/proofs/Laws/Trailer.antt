-- A body with its trailer behind it passes check 10 wherever it ends the bytes, and what passes is such a body: for every edition and length.
-- Assumes nothing.
use Rattle.std.proofs.Common.{◌≡◌, ℕ, ◌+◌, ◌-◌, ◌<◌, eqb, List, [], ◌∷◌, ◌++◌, length, get_or, take, drop, sym, refl, ap, ◌∙◌, append_assoc, arith, length-append, length-drop, take-append-drop, take_all, drop-drop, take_at, drop_at, eqb-true}
use Rattle.image_bytes.specs.Sum.{low_byte, high_byte, word_sum}
use Rattle.image_bytes.specs.Layout.{trailer, sealed}
use Rattle.image_bytes.specs.Find.{last_bytes, trailer_of, body_of, distance_of, sum_of, edition_of, marked}
use Rattle.translation.proofs.Tests.{and_true}
use Rattle.translation.proofs.Lists.{listed, take_listed, Below, below_drop}
use Rattle.image_bytes.proofs.Laws.Sum.{word_sum_below, word_of_bytes, low_of_word, high_of_word}
use Rattle.image_bytes.proofs.Laws.Layout.{length-sealed}
use Rattle.image_bytes.proofs.Laws.Find.{Sealed, length-body_of}

-- ---- last_bytes
pub last_bytes-append : (front l : List ℕ) (n : ℕ) → length l ≡ n → last_bytes n (front ++ l) ≡ l
last_bytes-append front l n h =
    let before : length front ≡ length (front ++ l) - n = omega (arith, length-append front l) in
    drop_at front l (length (front ++ l) - n) before

-- ---- a body and its trailer behind other bytes
module _ (edition n : ℕ) (front b : List ℕ) (long : length b ≡ n) where
  abbrev bytes : List ℕ
  bytes = front ++ sealed edition b

  sealed_long : length (sealed edition b) ≡ n + 8
  sealed_long = length-sealed edition b ∙ ap (λ (k : ℕ). k + 8) long

  trailer_of-sealed : trailer_of bytes ≡ trailer edition b
  unfolding sealed trailer
  trailer_of-sealed =
      ap trailer_of (sym (append_assoc front b (trailer edition b))) ∙ last_bytes-append (front ++ b) (trailer edition b) 8 refl

  pub body_of-sealed : body_of n bytes ≡ b
  unfolding sealed
  body_of-sealed =
      ap (take n) (last_bytes-append front (sealed edition b) (n + 8) sealed_long) ∙ take_at b (trailer edition b) n long

  pub sealed-trailer : n < 65536 → Sealed edition n bytes
  unfolding trailer
  sealed-trailer small =
      record {
        room = omega (arith, length-append front (sealed edition b), sealed_long);
        mark = ap marked trailer_of-sealed;
        number = ap edition_of trailer_of-sealed;
        distance = ap distance_of trailer_of-sealed ∙ word_of_bytes (length b) (omega arith) ∙ long;
        total =
            ap sum_of trailer_of-sealed
            ∙ word_of_bytes (word_sum b) (word_sum_below b)
            ∙ ap word_sum (sym body_of-sealed);
      }

-- ---- and the other way round
module _ (edition n : ℕ) (bytes : List ℕ) (s : Sealed edition n bytes) where
  last_bytes_parts : last_bytes (n + 8) bytes ≡ body_of n bytes ++ trailer_of bytes
  last_bytes_parts =
      let l = last_bytes (n + 8) bytes in
      let start : length bytes - (n + 8) + n ≡ length bytes - 8 = omega (arith, s.room) in
      sym (take-append-drop n l)
      ∙ ap (λ (r : List ℕ). body_of n bytes ++ r) (drop-drop n (length bytes - (n + 8)) bytes ∙ ap (λ (k : ℕ). drop k bytes) start)

  trailer_of_listed : trailer_of bytes ≡ listed 0 8 (trailer_of bytes)
  trailer_of_listed =
      let eight : length (trailer_of bytes) ≡ 8 = length-drop (length bytes - 8) bytes ∙ omega (arith, s.room) in
      sym (take_all 8 (trailer_of bytes) (omega arith)) ∙ take_listed 0 8 (trailer_of bytes) (omega arith)

  trailer_of-trailer : Below 256 bytes → trailer_of bytes ≡ trailer edition (body_of n bytes)
  unfolding trailer
  trailer_of-trailer bound =
      let t = trailer_of bytes in
      let b = body_of n bytes in
      let low : Below 256 t = below_drop 256 (length bytes - 8) bytes bound in
      let size : distance_of t ≡ length b = s.distance ∙ sym (length-body_of n bytes s.room) in
      let m1 = and_true (eqb (get_or t 5 0) 0x4B) _ s.mark in
      let m2 = and_true (eqb (get_or t 6 0) 0x42) _ m1.1 in
      let e0 : get_or t 0 0 ≡ low_byte (length b) = sym (low_of_word (get_or t 0 0) (get_or t 1 0) (low 0)) ∙ ap low_byte size in
      let e1 : get_or t 1 0 ≡ high_byte (length b) = sym (high_of_word (get_or t 0 0) (get_or t 1 0) (low 0) (low 1)) ∙ ap high_byte size in
      let e2 : get_or t 2 0 ≡ low_byte (word_sum b) = sym (low_of_word (get_or t 2 0) (get_or t 3 0) (low 2)) ∙ ap low_byte s.total in
      let e3 : get_or t 3 0 ≡ high_byte (word_sum b) = sym (high_of_word (get_or t 2 0) (get_or t 3 0) (low 2) (low 3)) ∙ ap high_byte s.total in
      let e5 : get_or t 5 0 ≡ 0x4B = eqb-true (get_or t 5 0) 0x4B m1.0 in
      let e6 : get_or t 6 0 ≡ 0x42 = eqb-true (get_or t 6 0) 0x42 m2.0 in
      let e7 : get_or t 7 0 ≡ 0x43 = eqb-true (get_or t 7 0) 0x43 m2.1 in
      let all : listed 0 8 t ≡ trailer edition b = λ i. e0 i ∷ e1 i ∷ e2 i ∷ e3 i ∷ s.number i ∷ e5 i ∷ e6 i ∷ e7 i ∷ [] in
      trailer_of_listed ∙ all

  -- the last bytes are the body with its trailer
  pub last_bytes-sealed : Below 256 bytes → last_bytes (n + 8) bytes ≡ sealed edition (body_of n bytes)
  unfolding sealed
  last_bytes-sealed bound = last_bytes_parts ∙ ap (λ (r : List ℕ). body_of n bytes ++ r) (trailer_of-trailer bound)
