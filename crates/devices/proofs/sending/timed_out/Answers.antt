-- `devices::sending::timed_out` meets its contract. The device that was sent to picks the source, and the callees' rules follow one another.
-- Assumes nothing.
use mathlib.Core.Path.{sym, ◌∙◌}
use Rattle.state.proofs.Laws.Changed.{by_three}
use Rattle.machine.proofs.Laws.Devices.{timed_out-mouse, timed_out_keyboard}
use Rattle.devices.proofs.sending.timed_out.Goals as goal

pub returns-then-to-number : goal.returns-then-to-number
returns-then-to-number c =
    by_three c.stop_sending.ensures c.note_not_taken.ensures c.put_from.ensures.change (timed_out-mouse _ (c.if-to-number.true ∙ c.number.ensures))

pub returns-else-to-number : goal.returns-else-to-number
returns-else-to-number c =
    by_three c.stop_sending.ensures c.note_not_taken.ensures c.put.ensures.change
    (timed_out_keyboard _ (λ mouse. c.if-to-number.false (mouse ∙ sym c.number.ensures)))
