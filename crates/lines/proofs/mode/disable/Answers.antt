-- `lines::mode::disable` meets its contract. The mode byte that is stored is the rule's, of the one that was read.
-- Assumes nothing.
use Prim.Native.Nat.{ℕ, ◌<◌}
use mathlib.Core.Path.{◌≡◌, refl, ap, ◌∙◌}
use borrow.Author.Rules.{rules}
use Rattle.std.specs.Int.Bits.{bit_or}
use Rattle.translation.specs.Bits.{set_bit}
use Rattle.translation.proofs.Tests.{equal_below}
use Rattle.machine.specs.State.{Public, Machine, lift}
use Rattle.machine.specs.Lines.{mode, with_mode}
use Rattle.machine.specs.Kept.{Kept}
use Rattle.machine.proofs.Laws.KeptLines.{keyboard_disabled-kept, mouse_disabled-kept}
use Rattle.state.specs.View.{view}
use Rattle.state.proofs.Laws.Changed.{by_rule, kept-change}
use Rattle.lines.specs.Devices.{off_bit, disabled}
use Rattle.lines.specs.declared.device.Device.{Device}
use Rattle.lines.specs.declared.device.Device.TheVariants as device
use Rattle.lines.proofs.mode.disable.Goals as goal

off-set : (d : Device) (p : Public) {n w : ℕ} → n ≡ mode p → w ≡ off_bit d → n < 256 → with_mode (bit_or n w) p ≡ disabled d p
off-set device.Keyboard p {n} is_n is_w byte =
    rw is_w (ap (λ (v : ℕ). with_mode v p) (equal_below (λ m. bit_or m 0x10) (λ m. set_bit m 4) 256 refl n byte ∙ ap (λ (m : ℕ). set_bit m 4) is_n))
off-set device.Mouse p {n} is_n is_w byte =
    rw is_w (ap (λ (v : ℕ). with_mode v p) (equal_below (λ m. bit_or m 0x20) (λ m. set_bit m 5) 256 refl n byte ∙ ap (λ (m : ℕ). set_bit m 5) is_n))

disabled-kept : (d : Device) {m : Machine} → Kept m → Kept (lift (disabled d) m)
disabled-kept device.Keyboard k = keyboard_disabled-kept k
disabled-kept device.Mouse k = mouse_disabled-kept k

pub returns : goal.returns
returns c =
    let args = c.args in
    let m = view args.s.now in
    kept-change (by_rule c.set_mode.ensures.change (ap (λ (p : Public). lift (λ _. p) m) (off-set args.device m.plain c.mode-n.ensures c.off_bit.ensures (search rules))))
    (λ k. disabled-kept args.device k)
