-- `lines::lines::put_from` meets its contract. The store is a change by the rule of the device, which keeps the body rules.
-- Assumes nothing.
use Prim.Native.Nat.{ℕ, ◌<◌}
use mathlib.Core.Path.{◌≡◌, ap}
use mathlib.Core.Bool.{Bool, true}
use borrow.Author.Rules.{rules}
use denote.Enum.Bare.{sameb}
use Rattle.machine.specs.State.{Public, Machine, lift, with_output}
use Rattle.machine.specs.Kept.{Kept}
use Rattle.machine.proofs.Laws.KeptLines.{put-kept, put_mouse-kept}
use Rattle.state.specs.View.{view}
use Rattle.state.proofs.Laws.Changed.{by_rule, kept-change, stored-put}
use Rattle.lines.specs.Devices.{put_from}
use Rattle.lines.specs.declared.device.Device.{Device}
use Rattle.lines.specs.declared.device.Device.TheVariants as device
use Rattle.lines.specs.contracts.device.Device.{the_type}
use Rattle.lines.proofs.lines.put_from.Goals as goal

put-rule : (d : Device) (b : ℕ) (p : Public) {mouse : Bool} → mouse ≡ sameb the_type d device.Mouse →
    with_output p (record { byte = b; full = true; mouse = mouse }) ≡ put_from d b p
put-rule device.Keyboard b p is_mouse = rw is_mouse
put-rule device.Mouse b p is_mouse = rw is_mouse

put_from-kept : (d : Device) (b : ℕ) {m : Machine} → b < 256 → Kept m → Kept (lift (put_from d b) m)
put_from-kept device.Keyboard b byte k = put-kept k b byte
put_from-kept device.Mouse b byte k = put_mouse-kept k b byte

pub returns : goal.returns
returns c =
    let args = c.args in
    let m = view args.s.now in
    kept-change (by_rule (stored-put (search rules) c.with_output.ensures)
    (ap (λ (p : Public). lift (λ _. p) m) (put-rule args.device args.byte m.plain c.eq.ensures)))
    (λ k. put_from-kept args.device args.byte (search rules) k)
