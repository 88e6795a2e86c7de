-- `read_full` keeps its invariant: what one read gave stands behind what there was, and the input has lost both.
use Rattle.std.proofs.Common.{◌≡◌, ◌∙◌, ap, sym, ℕ, ◌+◌, ◌-◌, ◌≤◌, List, ◌++◌, length, take, append_assoc, arith, Option, None, Some}
use Rattle.std.proofs.Math.Seq.{take-append-add, take-append-le, length-take-le}
use lib.ListN.{length-take, length-drop}
use borrow.Rule.Slice.PartMut.{put_mid, post_of, same_len_mid}
use Rattle.std.specs.Io.KnownBytes.{Consumes}
use Rattle.reading.proofs.read_full.Goals as goal

-- Known bytes that lose two pieces one after the other lose both.
both : (known next last : Option (List ℕ)) (x y : List ℕ) → Consumes known next x → Consumes next last y → Consumes known last (x ++ y)
both None next last x y first second = first
both (Some bytes) None last x y first second = absurd first
both (Some bytes) (Some rest) None x y first second = second
both (Some bytes) (Some rest) (Some left) x y first second = first ∙ ap (λ (z : List ℕ). x ++ z) second ∙ sym (append_assoc x y left)

-- The front of bytes into which a part was put at a.
front : (a n k : ℕ) (xs ys : List ℕ) → a ≤ length xs → n ≤ length ys → take (a + n) (put_mid a k xs ys) ≡ take a xs ++ take n ys
front a n k xs ys within some =
    ap (λ (m : ℕ). take (m + n) (put_mid a k xs ys)) (sym (length-take-le a xs within)) ∙ take-append-add (take a xs) (ys ++ post_of a k xs) n
    ∙ ap (λ (z : List ℕ). take a xs ++ z) (take-append-le n ys (post_of a k xs) some)

pub loop-got-preserved : goal.loop-got-preserved
loop-got-preserved g c =
    let h = c.loop-got in
    let long : length c.read.new.buf ≡ length h.bytes - h.got = c.read.auto.buf ∙ simp (length-take, length-drop) (omega arith) in
    let same = same_len_mid {X = ℕ} h.got (length h.bytes - h.got) h.bytes c.read.new.buf c.read.auto.buf in (
      same ∙ h.invariant.0,
      omega (arith, same, c.in_ok-n.ensures.bound.0, long),
      rw (front h.got c.in_ok-n.n (length h.bytes - h.got) h.bytes c.read.new.buf h.invariant.1 c.in_ok-n.ensures.bound.0)
          (both _ _ _ (take h.got h.bytes) (take c.in_ok-n.n c.read.new.buf) h.invariant.2 c.in_ok-n.ensures.bytes.0),
    )
