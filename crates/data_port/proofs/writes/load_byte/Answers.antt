-- `data_port::writes::load_byte` meets its contract. Its two tests are the definition's: the code is full where its length is 16.
-- Assumes nothing.
use Rattle.state.proofs.Laws.Changed.{by_rule, by_two}
use Rattle.state.proofs.Laws.Code.{load_byte-full, load_byte-room}
use Rattle.machine.proofs.Laws.DataPort.{load_byte_end}
use Rattle.data_port.proofs.writes.load_byte.Goals as goal

pub returns-then-v-eq0 : goal.returns-then-v-eq0
returns-then-v-eq0 c = search (by_rule, load_byte_end)

pub returns-then-s-ge-CODE_MOST : goal.returns-then-s-ge-CODE_MOST
returns-then-s-ge-CODE_MOST c = search (by_two, load_byte-full)

pub returns : goal.returns
returns c = search (by_rule, load_byte-room)
