-- "Saved image", the body rules, said of a machine: what holds of every machine that comes from a start or from an image.
use Rattle.std.specs.Prelude.{ℕ, ◌≤◌, ◌<◌, ◌≡◌, true, false, length, get_or}
use Rattle.translation.specs.Bits.{has}
use Rattle.translation.specs.KeyTable.{table_refusal}
use Rattle.machine.specs.State.{Machine}
use Rattle.machine.specs.Lines.{at_mode, second_set, mode}

pub record Kept (m : Machine) : Type 0 where
  pub output : m.plain.output.byte < 256
  -- mouse source needs OBF
  pub source : m.plain.output.mouse ≡ true → m.plain.output.full ≡ true
  pub pins : m.plain.ports.pins < 256
  -- what only one mode or one command set can change has its fresh value in the others (document 02, W9)
  pub latches : second_set m.plain ≡ false → at_mode m.plain ≡ false → (m.plain.ports.p22 ≡ true) × (m.plain.ports.p23 ≡ true)
  pub p25 : at_mode m.plain ≡ false → m.plain.ports.p25 ≡ false
  pub ttim : at_mode m.plain ≡ false → m.plain.errors.ttim ≡ false
  pub first_set : second_set m.plain ≡ false → (m.plain.ports.input_latches ≡ 0x3F) × (m.plain.ports.high_allowed ≡ false)
  -- P1 has six latches
  pub input_latches : m.plain.ports.input_latches < 64
  pub pending : m.plain.host.pending ≤ 7
  -- the cell is 1-31 for code 2, else 0
  pub cell : m.plain.host.pending ≡ 2 → (1 ≤ m.plain.host.cell) × (m.plain.host.cell ≤ 31)
  pub no_cell : (m.plain.host.pending ≡ 2 → ⊥) → m.plain.host.cell ≡ 0
  pub nibble : m.plain.host.nibble < 16
  pub no_nibble : m.plain.host.overlay ≡ false → m.plain.host.nibble ≡ 0
  -- with the second command set bit 0 of the nibble is 0
  pub even_nibble : second_set m.plain ≡ true → has m.plain.host.nibble 0 ≡ false
  pub to : m.plain.sending.to ≤ 2
  pub sent : m.plain.sending.byte < 256
  pub no_sent : m.plain.sending.to ≡ 0 → m.plain.sending.byte ≡ 0
  pub code : length m.secret.code ≤ 16
  pub code_bytes : (k : ℕ) → k < length m.secret.code → (1 ≤ get_or m.secret.code k 0) × (get_or m.secret.code k 0 < 256)
  -- when locked there is a code, no pending code and no byte being sent, and the position is below the code's length; when not locked the position
  -- is 0
  pub locked : m.plain.locked ≡ true → (m.secret.position < length m.secret.code) × (m.plain.host.pending ≡ 0) × (m.plain.sending.to ≡ 0)
  pub unlocked : m.plain.locked ≡ false → m.secret.position ≡ 0
  pub ram : length m.plain.ram ≡ 32
  pub cells : (k : ℕ) → get_or m.plain.ram k 0 < 256
  -- bit 7 of the mode byte is 0
  pub mode_byte : mode m.plain < 128
  pub version : m.plain.settings.version < 256
  -- the key table is one that a start takes, and holds bytes (document 02, W7)
  pub table : table_refusal m.plain.settings.table ≡ 0
  pub entries : (b : ℕ) → get_or m.plain.settings.table b 0 < 256
