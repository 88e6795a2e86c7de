-- `lines::mode::enable` meets its contract. The mode byte that is stored is the rule's, of the one that was read.
-- Assumes nothing.
use Prim.Native.Nat.{ℕ, ◌-◌, ◌<◌}
use mathlib.Core.Path.{◌≡◌, refl, ap, ◌∙◌}
use borrow.Author.Rules.{rules}
use Rattle.std.specs.Int.Bits.{bit_and}
use Rattle.translation.specs.Bits.{clear_bit}
use Rattle.translation.proofs.Tests.{equal_below}
use Rattle.machine.specs.State.{Public, Machine, lift}
use Rattle.machine.specs.Lines.{mode, with_mode}
use Rattle.machine.specs.Kept.{Kept}
use Rattle.machine.proofs.Laws.KeptLines.{keyboard_enabled-kept, mouse_enabled-kept}
use Rattle.state.specs.View.{view}
use Rattle.state.proofs.Laws.Changed.{by_rule, kept-change}
use Rattle.lines.specs.Devices.{off_bit, enabled}
use Rattle.lines.specs.declared.device.Device.{Device}
use Rattle.lines.specs.declared.device.Device.TheVariants as device
use Rattle.lines.proofs.mode.enable.Goals as goal

off-cleared : (d : Device) (p : Public) {n w : ℕ} → n ≡ mode p → w ≡ off_bit d → n < 256 → with_mode (bit_and n (0xFF - w)) p ≡ enabled d p
off-cleared device.Keyboard p {n} is_n is_w byte =
    rw is_w (ap (λ (v : ℕ). with_mode v p) (equal_below (λ m. bit_and m (0xFF - 0x10)) (λ m. clear_bit m 4) 256 refl n byte ∙ ap (λ (m : ℕ). clear_bit m 4) is_n))
off-cleared device.Mouse p {n} is_n is_w byte =
    rw is_w (ap (λ (v : ℕ). with_mode v p) (equal_below (λ m. bit_and m (0xFF - 0x20)) (λ m. clear_bit m 5) 256 refl n byte ∙ ap (λ (m : ℕ). clear_bit m 5) is_n))

enabled-kept : (d : Device) {m : Machine} → Kept m → Kept (lift (enabled d) m)
enabled-kept device.Keyboard k = keyboard_enabled-kept k
enabled-kept device.Mouse k = mouse_enabled-kept k

pub returns : goal.returns
returns c =
    let args = c.args in
    let m = view args.s.now in
    kept-change (by_rule c.set_mode.ensures.change (ap (λ (p : Public). lift (λ _. p) m) (off-cleared args.device m.plain c.mode-n.ensures c.off_bit.ensures (search rules))))
    (λ k. enabled-kept args.device k)
