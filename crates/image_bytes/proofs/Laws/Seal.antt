-- Laws of the definitions in specs/Seal. Assumes nothing.
use Rattle.std.proofs.Common.{◌≡◌, ℕ, ◌+◌, ◌<◌, ◌≤◌, List, ◌++◌, length, take, drop, sym, refl, ap, ap₂, append_assoc, ◌∙◌, arith, le-ltb, lt-ltb, eq-eqb, ne_eqb}
use lib.Seq.{take-append_seam, take_at, drop_at, drop-drop}
use borrow.Rule.Slice.PartMut.{put_mid}
use Rattle.translation.proofs.Tests.{cond_true, cond_false}
use Rattle.image_bytes.specs.Layout.{trailer, sealed}
use Rattle.image_bytes.specs.Seal.{space_refusal, image_written, Written}
use Rattle.image_bytes.proofs.Laws.Layout.{length-sealed}

-- ---- space_refusal
module _ (n : ℕ) (space : List ℕ) where
  pub space_refusal_short : length space < n → space_refusal n space ≡ 9
  unfolding space_refusal
  space_refusal_short h = cond_true _ _ _ (lt-ltb _ _ h)

  pub space_refusal-room : n ≤ length space → space_refusal n space ≡ 0
  unfolding space_refusal
  space_refusal-room h = cond_false _ _ _ (le-ltb _ _ h)

module _ (image space : List ℕ) where
  -- ---- image_written
  pub image_written-refused : (space_refusal (length image) space ≡ 0 → ⊥) → image_written image space ≡ space
  unfolding image_written
  image_written-refused stands = cond_false _ _ _ (ne_eqb _ 0 stands)

  pub image_written-room : space_refusal (length image) space ≡ 0 → image_written image space ≡ image ++ drop (length image) space
  unfolding image_written
  image_written-room z = cond_true _ _ _ (eq-eqb _ 0 z)

  pub take-image_written : space_refusal (length image) space ≡ 0 → take (length image) (image_written image space) ≡ image
  take-image_written z = ap (take (length image)) (image_written-room z) ∙ take-append_seam image _

  -- ---- Written
  pub written_short : length space < length image → Written image space 9 space
  written_short h =
      let nine = space_refusal_short (length image) space h in
      record { refusal = sym nine; bytes = sym (image_written-refused (λ z. omega (arith, z, nine))) }

  pub written_room : {space' : List ℕ} → length image ≤ length space → space' ≡ image ++ drop (length image) space → Written image space 0 space'
  written_room h e = let z = space_refusal-room (length image) space h in record { refusal = sym z; bytes = e ∙ sym (image_written-room z) }

-- a body copied to the front of d, and its trailer behind it
pub sealed_written : (edition : ℕ) (b d : List ℕ) {b' tail tail' : List ℕ} {k : ℕ} → length (sealed edition b) ≤ length d → k ≡ 8 → b' ≡ b →
    tail ≡ trailer edition b → tail' ≡ tail → Written (sealed edition b) d 0 (put_mid (length b) k (put_mid 0 (length b) d b') tail')
unfolding sealed
sealed_written edition b d {b'} {tail} {tail'} {k} enough eight body made after =
    let n = length b in
    let t = trailer edition b in
    let mid : put_mid 0 n d b' ≡ b ++ drop n d = ap (λ (l : List ℕ). l ++ drop n d) body in
    let rest : drop k (drop n (b ++ drop n d)) ≡ drop (n + 8) d =
    ap (drop k) (drop_at b (drop n d) n refl) ∙ drop-drop k n d ∙ ap (λ (j : ℕ). drop j d) (omega arith) in
    let both : put_mid n k (put_mid 0 n d b') tail' ≡ (b ++ t) ++ drop (n + 8) d =
    ap (λ (l : List ℕ). put_mid n k l tail') mid
    ∙ ap₂ (λ (x y : List ℕ). x ++ y) (take_at b (drop n d) n refl) (ap₂ (λ (x y : List ℕ). x ++ y) (after ∙ made) rest)
    ∙ sym (append_assoc b t (drop (n + 8) d)) in
    written_room (sealed edition b) d enough (both ∙ ap (λ (j : ℕ). sealed edition b ++ drop j d) (sym (length-sealed edition b)))
