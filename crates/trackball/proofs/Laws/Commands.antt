-- The cases of a byte that was sent, and that what it and a report give are bytes. Assumes nothing.
use Prim.Native.Nat.{ℕ, zero, suc, ◌<◌}
use mathlib.Core.Path.{◌≡◌, refl, sym, ap, subst}
use mathlib.Core.Bool.{Bool, true, false, cond, ◌||◌}
use mathlib.Core.List.{List, [], ◌∷◌}
use native.Mathlib.Omega.{arith}
use borrow.Author.Tests.{ne_eqb}
use lib.Dec.{eqb}
use Rattle.translation.proofs.Lists.{Below}
use Rattle.translation.proofs.Tests.{split}
use Rattle.trackball.specs.Trackball.{Mouse, with_reporting, without_movement}
use Rattle.trackball.specs.Packets.{packet, report_bytes}
use Rattle.trackball.specs.Commands.{reply_bytes, received}
use Rattle.trackball.proofs.Laws.Packets.{packet_below}

-- ---- a byte that was sent: what it does and what it gives
abbrev Replied : ℕ → Mouse → Mouse → List ℕ → Type 0
Replied b m next bytes = (next ≡ received b m) × (bytes ≡ reply_bytes b m)

module _ {b : ℕ} (m : Mouse) where
  pub replied_EB : {next : Mouse} {h x y : ℕ} → b ≡ 0xEB → next ≡ without_movement m → (h ∷ x ∷ y ∷ []) ≡ packet m → Replied b m next (0xFA ∷ h ∷ x ∷ y ∷ [])
  unfolding reply_bytes received
  replied_EB byte after made = rw byte (after, ap (λ (l : List ℕ). 0xFA ∷ l) made)

  pub replied_F2 : b ≡ 0xF2 → Replied b m m (0xFA ∷ 0x00 ∷ [])
  unfolding reply_bytes received
  replied_F2 byte = rw byte (refl, refl)

  pub replied_F4 : {next : Mouse} → b ≡ 0xF4 → next ≡ with_reporting true m → Replied b m next (0xFA ∷ [])
  unfolding reply_bytes received
  replied_F4 byte after = rw byte (after, refl)

  pub replied_F5 : {next : Mouse} → b ≡ 0xF5 → next ≡ with_reporting false m → Replied b m next (0xFA ∷ [])
  unfolding reply_bytes received
  replied_F5 byte after = rw byte (after, refl)

  pub replied_FF : {next : Mouse} → b ≡ 0xFF → next ≡ without_movement (with_reporting false m) → Replied b m next (0xFA ∷ 0xAA ∷ 0x00 ∷ [])
  unfolding reply_bytes received
  replied_FF byte after = rw byte (after, refl)

  -- every other byte
  pub replied_other : (b ≡ 0xEB → ⊥) → (b ≡ 0xF2 → ⊥) → (b ≡ 0xF4 → ⊥) → (b ≡ 0xF5 → ⊥) → (b ≡ 0xFF → ⊥) → Replied b m m (0xFE ∷ [])
  unfolding reply_bytes received
  replied_other eb f2 f4 f5 ff =
      simp (ne_eqb _ _ eb, ne_eqb _ _ f2, ne_eqb _ _ f4, ne_eqb _ _ f5, ne_eqb _ _ ff) (refl, refl)

-- ---- bytes
-- what the definition chooses by whether it reports
chosen : (m : Mouse) (r : Bool) → m.reporting ≡ r → report_bytes m ≡ cond r (packet m) []
unfolding report_bytes
chosen m r e = ap (λ (r : Bool). cond r (packet m) []) e

below_cons : (b : ℕ) (l : List ℕ) → b < 256 → Below 256 l → Below 256 (b ∷ l)
below_cons b l first rest zero = first
below_cons b l first rest (suc k) = rest k

below_nil : Below 256 []
below_nil k = omega arith

pub report_bytes_below : (m : Mouse) → Below 256 (report_bytes m)
report_bytes_below m =
    split m.reporting (λ on. subst (Below 256) (sym (chosen m true on)) (packet_below m))
    (λ off. subst (Below 256) (sym (chosen m false off)) below_nil)

pub reply_bytes_below : (b : ℕ) (m : Mouse) → Below 256 (reply_bytes b m)
unfolding reply_bytes
reply_bytes_below b m =
    split (eqb b 0xEB) (λ h. simp h (below_cons 0xFA (packet m) (omega arith) (packet_below m))) λ eb.
    split (eqb b 0xF2) (λ h. simp (eb, h) (below_cons 0xFA (0x00 ∷ []) (omega arith) (below_cons 0x00 [] (omega arith) below_nil))) λ f2.
    split (eqb b 0xF4 || eqb b 0xF5) (λ h. simp (eb, f2, h) (below_cons 0xFA [] (omega arith) below_nil)) λ f4.
    split (eqb b 0xFF)
    (λ h.
    simp (eb, f2, f4, h)
    (below_cons 0xFA (0xAA ∷ 0x00 ∷ []) (omega arith) (below_cons 0xAA (0x00 ∷ []) (omega arith) (below_cons 0x00 [] (omega arith) below_nil))))
    (λ h. simp (eb, f2, f4, h) (below_cons 0xFE [] (omega arith) below_nil))
