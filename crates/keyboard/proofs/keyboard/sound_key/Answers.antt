-- `keyboard::keyboard::sound_key` meets its contract. The callees' rules follow one another, over the translation that `translated` answers.
-- Assumes nothing.
use mathlib.Core.Path.{ap}
use mathlib.Core.Bool.{false}
use Rattle.translation.specs.ScanCodes.{Translation}
use Rattle.machine.specs.State.{lift}
use Rattle.state.specs.View.{view}
use Rattle.machine.specs.Devices.{sound_key, yield_delivered, breaking, errors_set}
use Rattle.state.proofs.Laws.Changed.{chain, by_rule}
use Rattle.keyboard.proofs.keyboard.sound_key.Goals as goal

pub returns : goal.returns
unfolding sound_key
returns c =
    let m = view c.args.s.now in
    by_rule (chain (chain c.set_errors.ensures.change c.set_breaks.ensures) c.deliver_yield.ensures)
    (ap (λ (t : Translation). yield_delivered t.yields (lift (breaking t.breaks) (lift (errors_set false false) m))) c.translated-t.ensures)
