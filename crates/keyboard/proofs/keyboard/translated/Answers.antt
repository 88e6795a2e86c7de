-- `keyboard::keyboard::translated` meets its contract. The test is the definition's own, and the entry is of the state's table.
-- Assumes nothing.
use Rattle.machine.proofs.Laws.Devices.{translated-on, translated_off}
use Rattle.keyboard.proofs.keyboard.translated.Goals as goal

pub returns-then-translates-locked : goal.returns-then-translates-locked
returns-then-translates-locked c =
    translated-on _ _ c.translates.ensures c.locked.ensures c.if-translates-locked.true
    (c.translate.ensures _ c.entry.ensures) c.breaks.ensures

pub returns-else-translates-locked : goal.returns-else-translates-locked
returns-else-translates-locked c = search translated_off
