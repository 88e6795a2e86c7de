-- The body rules hold of a fresh machine, and every step of a machine keeps them.
-- Assumes nothing.
use Prim.Native.Nat.{ℕ, zero, suc, ◌<◌}
use mathlib.Core.Path.{◌≡◌, refl}
use native.Mathlib.Omega.{arith}
use lib.Dec.{eqb}
use lib.ListN.{get_or}
use borrow.Author.Tests.{eqb-true}
use Rattle.translation.specs.Frames.{check, sound}
use Rattle.translation.proofs.Frame.{check_sound}
use Rattle.machine.specs.Settings.{Settings}
use Rattle.machine.specs.State.{Machine, fresh, lift}
use Rattle.machine.specs.DataPort.{write_data}
use Rattle.machine.specs.Commands.{write_command}
use Rattle.machine.specs.Devices.{pinned}
use Rattle.machine.specs.Events.{Event, value, refusal, emptied, accept, step}
use Rattle.machine.specs.Kept.{Kept}
use Rattle.machine.proofs.Laws.Cond.{cond-holds, not_both}
use Rattle.machine.proofs.Laws.Bounds.{get_or_zeros}
use Rattle.machine.proofs.Laws.Events.{accepted-byte, accepted_write, accept-holds}
use Rattle.machine.proofs.Laws.KeptParts.{RamKept, SettingsKept, grouped_kept, with_output-kept}
use Rattle.machine.proofs.Laws.KeptDataPort.{write_data-kept}
use Rattle.machine.proofs.Laws.KeptCommands.{write_command-kept}
use Rattle.machine.proofs.Laws.KeptDevices.{keyboard_frame-kept, mouse_frame-kept, taken-kept, timed_out-kept, pinned-kept}

-- ---- fresh
module _ (x : Settings) where
  fresh-ram-kept : RamKept (fresh x).plain.ram
  unfolding fresh
  fresh-ram-kept = (refl, cells, omega arith)
    where
      cells : (k : ℕ) → get_or (fresh x).plain.ram k 0 < 256
      cells zero = omega arith
      cells (suc k) = omega (arith, get_or_zeros 31 k)

  pub fresh_kept : SettingsKept x → Kept (fresh x)
  unfolding fresh
  fresh_kept settings =
      grouped_kept (fresh x) (omega arith, λ e. e) (λ _. refl)
      (omega arith, omega arith, λ _. refl, omega arith, λ _. refl, λ _. refl)
      (omega arith, λ _ _. (refl, refl), λ _. refl, λ _. (refl, refl), omega arith)
      (omega arith, omega arith, λ _. refl)
      fresh-ram-kept
      (omega arith, omega arith)
      (λ l. not_both l refl, λ _. refl)
      settings

-- ---- emptied, accept, step
pub emptied-kept : {m : Machine} → Kept m → Kept (lift emptied m)
emptied-kept k = with_output-kept k _ (k.output, λ e. not_both e refl)

module _ {m : Machine} (k : Kept m) (e : Event) (a : refusal m.plain e ≡ 0) where
  data_event_kept : e.kind ≡ 1 → Kept (write_data (value e) m)
  data_event_kept h =
      write_data-kept k (accepted_write _ e a (simp h)).1 (value e) (omega (arith, accepted-byte _ e a (simp h)))

  command_event_kept : e.kind ≡ 3 → Kept (write_command (value e) m)
  command_event_kept h =
      let (nobody, unlocked) = accepted_write _ e a (simp h) in
      write_command-kept k unlocked nobody (value e)

  pins_event_kept : e.kind ≡ 8 → Kept (lift (pinned (value e)) m)
  pins_event_kept h = pinned-kept k (value e) (omega (arith, accepted-byte _ e a (simp h)))

  pub accept-kept : Kept (accept m e)
  accept-kept =
      let sound-below : (b : ℕ) → check (value e) ≡ sound b → b < 256 = λ b s. (check_sound _ b s).0 in
      accept-holds m e Kept k (emptied-kept k) data_event_kept command_event_kept (λ _. keyboard_frame-kept k _ sound-below)
      (mouse_frame-kept k _ sound-below) (taken-kept k) (timed_out-kept k) pins_event_kept

pub keeps : (m : Machine) (e : Event) → Kept m → Kept (step m e)
unfolding step
keeps m e k =
    cond-holds Kept (eqb (refusal m.plain e) 0) (λ a. accept-kept k e (eqb-true _ _ a)) λ _. k
