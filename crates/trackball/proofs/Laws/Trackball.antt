-- What is in range stays in range, whatever is moved, sent or reported. Assumes nothing.
use Prim.Native.Nat.{ℕ}
use mathlib.Core.Path.{refl, subst, sym}
use mathlib.Core.Bool.{Bool, true, false, cond}
use native.Mathlib.Omega.{arith}
use lib.IntN.{ℤ, ◌+ℤ◌}
use lib.Signed.{lt_z}
use lib.Dec.{eqb}
use Rattle.translation.proofs.Tests.{split}
use Rattle.trackball.specs.Counters.{lowest, highest, held, stepped}
use Rattle.trackball.specs.Trackball.{Mouse, fresh, moved, with_reporting, without_movement, SumInRange, InRange}
use Rattle.trackball.specs.Packets.{reported}
use Rattle.trackball.specs.Commands.{received}

-- ---- held
pub held_in_range : (z : ℤ) → SumInRange (held z)
unfolding held
held_in_range z =
    split (lt_z z lowest) (λ low. simp low (record { low = refl; high = refl }))
    (λ low. split (lt_z highest z) (λ high. simp (low, high) (record { low = refl; high = refl })) (λ high. simp (low, high) (record { low = low; high = high })))

-- ---- moved
pub moved_in_range : (b : ℕ) (x y : ℤ) (m : Mouse) → InRange (moved b x y m)
unfolding moved stepped
moved_in_range b x y m =
    record { x = held_in_range (m.x.sum +ℤ x); y = held_in_range (m.y.sum +ℤ y); buttons = omega arith }

pub fresh_in_range : InRange fresh
fresh_in_range = record { x = record { low = refl; high = refl }; y = record { low = refl; high = refl }; buttons = omega arith }

-- ---- packets and commands
without_movement_in_range : (m : Mouse) → InRange m → InRange (without_movement m)
without_movement_in_range m r = record { x = fresh_in_range.x; y = fresh_in_range.y; buttons = r.buttons }

with_reporting_in_range : (b : Bool) (m : Mouse) → InRange m → InRange (with_reporting b m)
with_reporting_in_range b m r = record { x = r.x; y = r.y; buttons = r.buttons }

pub reported_in_range : (m : Mouse) → InRange m → InRange (reported m)
unfolding reported
reported_in_range m r =
    split m.reporting (λ on. subst (λ (b : Bool). InRange (cond b (without_movement m) m)) (sym on) (without_movement_in_range m r))
    (λ off. subst (λ (b : Bool). InRange (cond b (without_movement m) m)) (sym off) r)

pub received_in_range : (b : ℕ) (m : Mouse) → InRange m → InRange (received b m)
unfolding received
received_in_range b m r =
    split (eqb b 0xEB) (λ h. simp h (without_movement_in_range m r)) λ eb.
    split (eqb b 0xF4) (λ h. simp (eb, h) (with_reporting_in_range true m r)) λ f4.
    split (eqb b 0xF5) (λ h. simp (eb, f4, h) (with_reporting_in_range false m r)) λ f5.
    split (eqb b 0xFF) (λ h. simp (eb, f4, f5, h) (without_movement_in_range (with_reporting false m) (with_reporting_in_range false m r)))
    (λ h. simp (eb, f4, f5, h) r)
