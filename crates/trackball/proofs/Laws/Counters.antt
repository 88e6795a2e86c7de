-- What is true of sums: what the machine reads of a number that it holds in bits is the number, and a sum that stops at the ends of sixteen
-- bits and then at its own ends stops where the definition's does. Integers are taken apart by their two cases. Assumes nothing.
use Prim.Native.Nat.{suc, ◌-◌, ◌<◌, min}
use mathlib.Core.Path.{◌≡◌, refl, ap, ap₂, ◌∙◌}
use mathlib.Core.Bool.{Bool, false, not, ◌||◌}
use native.Mathlib.Omega.{arith}
use lib.Dec.{eqb, ltb}
use lib.IntN.{ℤ, pos, negsuc, ◌+ℤ◌}
use lib.Signed.{lt_z}
use borrow.Author.Tests.{eq-eqb, ne_eqb, lt-ltb, ltb-true, ltb-false}
use mir.Syntax.{w16}
use mir.Val.{to_z, of_z, SFits}
use mir.ValLaws.{to_z-of_z}
use Rattle.std.specs.Int.{saturate_signed, int_max, int_min}
use Rattle.translation.proofs.Tests.{split}
use Rattle.trackball.specs.Counters.{lowest, highest, held, beyond, stepped, complement}

-- what the machine reads of a number of sixteen bits
abbrev pub read : ℤ → ℤ
read z = to_z w16 (of_z w16 z)

-- so a call that is given two such numbers does what it does for the numbers themselves
pub given_read : {A : Type 0} (f : ℤ → ℤ → A) {x y : ℤ} → SFits w16 x → SFits w16 y → f (read x) (read y) ≡ f x y
given_read f {x} {y} p q = ap₂ f (to_z-of_z w16 x p) (to_z-of_z w16 y q)

-- a number within the ends fits sixteen bits
pub within_fits : (z : ℤ) → lt_z z lowest ≡ false → lt_z highest z ≡ false → SFits w16 z
within_fits (pos n) low high = record { sfits = omega (arith, ltb-false 255 n high) }
within_fits (negsuc n) low high = record { sfits = omega (arith, ltb-false 255 n low) }

-- ---- stepped

-- a sum that stops at the ends of sixteen bits, and then at its own
abbrev saturated : ℤ → ℤ
saturated z = saturate_signed w16 z

abbrev clamped : ℤ → ℤ
clamped z = int_max lowest (int_min z highest)

clamped_held : (z : ℤ) → clamped (saturated z) ≡ held z
unfolding held
clamped_held (pos n) =
    split (ltb 255 n) (λ h. simp (lt-ltb 255 (min n 32767) (omega (arith, ltb-true 255 n h)), h))
    (λ h. let same : min n 32767 ≡ n = omega (arith, ltb-false 255 n h) in simp (same, h))
clamped_held (negsuc n) =
    split (ltb 255 n) (λ h. simp (lt-ltb 255 (min n 32767) (omega (arith, ltb-true 255 n h)), h))
    (λ h. let same : min n 32767 ≡ n = omega (arith, ltb-false 255 n h) in simp (same, h))

-- an end was passed where the two differ
clamped_beyond : (z : ℤ) → not (eqb (of_z w16 (clamped (saturated z))) (of_z w16 (saturated z))) ≡ beyond z
unfolding beyond
clamped_beyond (pos n) =
    split (ltb 255 n)
    (λ h. simp (lt-ltb 255 (min n 32767) (omega (arith, ltb-true 255 n h)), h, ne_eqb 255 (min n 32767) (omega (arith, ltb-true 255 n h))))
    (λ h. let same : min n 32767 ≡ n = omega (arith, ltb-false 255 n h) in simp (same, h, eq-eqb n n refl))
clamped_beyond (negsuc n) =
    split (ltb 255 n)
    (λ h. simp (lt-ltb 255 (min n 32767) (omega (arith, ltb-true 255 n h)), h, ne_eqb 65280 (65536 - suc (min n 32767)) (omega (arith, ltb-true 255 n h))))
    (λ h. let same : min n 32767 ≡ n = omega (arith, ltb-false 255 n h) in simp (same, h, eq-eqb (65536 - suc n) (65536 - suc n) refl))

-- A sum and a step, what the machine adds up, and where that is held.
pub stepped_made : {sum step total held : ℤ} (o : Bool) → SFits w16 sum → SFits w16 step → SFits w16 total → SFits w16 held →
    total ≡ saturated (read sum +ℤ read step) → held ≡ clamped (read total) →
    record { sum = read held; overflow = o || not (eqb (of_z w16 held) (of_z w16 total)) } ≡ stepped step (record { sum = sum; overflow = o })
unfolding stepped
stepped_made {sum} {step} {total} {held} o p q t h added kept =
    let total_is : total ≡ saturated (sum +ℤ step) = added ∙ given_read (λ (x y : ℤ). saturated (x +ℤ y)) p q in
    let held_is : held ≡ clamped (saturated (sum +ℤ step)) = kept ∙ ap clamped (to_z-of_z w16 total t ∙ total_is) in
    ap₂ (λ (z : ℤ) (b : Bool). record { sum = z; overflow = o || b }) (to_z-of_z w16 held h ∙ held_is ∙ clamped_held (sum +ℤ step))
    (ap₂ (λ (x y : ℤ). not (eqb (of_z w16 x) (of_z w16 y))) held_is total_is ∙ clamped_beyond (sum +ℤ step))

-- ---- complement

-- the bits of a number of sixteen
pub bits_complement : (z : ℤ) → SFits w16 z → of_z w16 z ≡ complement z
unfolding complement
bits_complement (pos n) p = omega (arith, p.sfits)
bits_complement (negsuc n) p = omega (arith, p.sfits)

pub complement_below : (z : ℤ) → complement z < 65536
unfolding complement
complement_below (pos n) = omega arith
complement_below (negsuc n) = omega arith
