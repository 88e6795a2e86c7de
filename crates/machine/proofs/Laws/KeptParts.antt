-- The body rules in groups, one for each part of the state: a machine with one part replaced keeps them if the new part keeps its own.
-- Assumes nothing.
use Prim.Native.Nat.{ℕ, ◌<◌, ◌≤◌}
use mathlib.Core.Path.{◌≡◌}
use mathlib.Core.Bool.{Bool, true, false}
use mathlib.Core.List.{List}
use lib.ListN.{length, get_or}
use Rattle.translation.specs.Bits.{has}
use Rattle.translation.specs.KeyTable.{table_refusal}
use Rattle.machine.specs.Settings.{Settings}
use Rattle.machine.specs.State.{Output, Errors, Host, Ports, Sending, Machine, lift}
use Rattle.machine.specs.State.{with_output, with_errors, with_host, with_ports, with_sending, with_breaks, with_locked, with_ram, with_secret}
use Rattle.machine.specs.Kept.{Kept}
use Rattle.machine.proofs.Laws.Cond.{not_both}

-- ---- the groups
abbrev pub OutputKept : Output → Type 0
OutputKept o = (o.byte < 256) × (o.mouse ≡ true → o.full ≡ true)

-- in PS/2 mode what AT mode adds has its fresh value
abbrev pub ErrorsKept : Settings → Errors → Type 0
ErrorsKept x e = x.at_mode ≡ false → e.ttim ≡ false

-- likewise what the second command set adds with the first
abbrev pub PortsKept : Settings → Ports → Type 0
PortsKept x q =
    (q.pins < 256)
    × (x.second_set ≡ false → x.at_mode ≡ false → (q.p22 ≡ true) × (q.p23 ≡ true))
    × (x.at_mode ≡ false → q.p25 ≡ false)
    × (x.second_set ≡ false → (q.input_latches ≡ 0x3F) × (q.high_allowed ≡ false))
    × (q.input_latches < 64)

abbrev pub HostKept : Settings → Host → Type 0
HostKept x h =
    (h.pending ≤ 7)
    × (h.pending ≡ 2 → (1 ≤ h.cell) × (h.cell ≤ 31))
    × ((h.pending ≡ 2 → ⊥) → h.cell ≡ 0)
    × (h.nibble < 16)
    × (h.overlay ≡ false → h.nibble ≡ 0)
    × (x.second_set ≡ true → has h.nibble 0 ≡ false)

abbrev pub SendingKept : Sending → Type 0
SendingKept s = (s.to ≤ 2) × (s.byte < 256) × (s.to ≡ 0 → s.byte ≡ 0)

abbrev pub CodeKept : List ℕ → Type 0
CodeKept c = (length c ≤ 16) × ((k : ℕ) → k < length c → (1 ≤ get_or c k 0) × (get_or c k 0 < 256))

abbrev pub RamKept : List ℕ → Type 0
RamKept r = (length r ≡ 32) × ((k : ℕ) → get_or r k 0 < 256) × (get_or r 0 0 < 128)

abbrev pub SettingsKept : Settings → Type 0
SettingsKept x = (x.version < 256) × (table_refusal x.table ≡ 0) × ((b : ℕ) → get_or x.table b 0 < 256)

abbrev pub LockKept : Machine → Type 0
LockKept m =
    (m.plain.locked ≡ true → (m.secret.position < length m.secret.code) × (m.plain.host.pending ≡ 0) × (m.plain.sending.to ≡ 0))
    × (m.plain.locked ≡ false → m.secret.position ≡ 0)

-- ---- Kept
-- a machine that keeps the rules of each group keeps them
pub grouped_kept : (m : Machine) →
    OutputKept m.plain.output →
    ErrorsKept m.plain.settings m.plain.errors →
    HostKept m.plain.settings m.plain.host →
    PortsKept m.plain.settings m.plain.ports →
    SendingKept m.plain.sending →
    RamKept m.plain.ram →
    CodeKept m.secret.code →
    LockKept m →
    SettingsKept m.plain.settings →
    Kept m
grouped_kept m o e h p s r c l x =
    record {
      output = o.0;
      source = o.1;
      pins = p.0;
      latches = p.1;
      p25 = p.2;
      ttim = e;
      first_set = p.3;
      input_latches = p.4;
      pending = h.0;
      cell = h.1;
      no_cell = h.2;
      nibble = h.3;
      no_nibble = h.4;
      even_nibble = h.5;
      to = s.0;
      sent = s.1;
      no_sent = s.2;
      code = c.0;
      code_bytes = c.1;
      locked = l.0;
      unlocked = l.1;
      ram = r.0;
      cells = r.1;
      mode_byte = r.2;
      version = x.0;
      table = x.1;
      entries = x.2;
    }

-- and the other way round
module _ {m : Machine} (k : Kept m) where
  pub kept-output : OutputKept m.plain.output
  kept-output = (k.output, k.source)

  pub kept-errors : ErrorsKept m.plain.settings m.plain.errors
  kept-errors = k.ttim

  pub kept-ports : PortsKept m.plain.settings m.plain.ports
  kept-ports = (k.pins, k.latches, k.p25, k.first_set, k.input_latches)

  pub kept-host : HostKept m.plain.settings m.plain.host
  kept-host = (k.pending, k.cell, k.no_cell, k.nibble, k.no_nibble, k.even_nibble)

  pub kept-sending : SendingKept m.plain.sending
  kept-sending = (k.to, k.sent, k.no_sent)

  pub kept-ram : RamKept m.plain.ram
  kept-ram = (k.ram, k.cells, k.mode_byte)

  pub kept-code : CodeKept m.secret.code
  kept-code = (k.code, k.code_bytes)

  pub kept-settings : SettingsKept m.plain.settings
  kept-settings = (k.version, k.table, k.entries)

  pub kept_lock : LockKept m
  kept_lock = (k.locked, k.unlocked)

-- ---- one part replaced
-- the lock and the position
abbrev pub with_lock : Bool → ℕ → Machine → Machine
with_lock b i m = record { plain = with_locked m.plain b; secret = record { code = m.secret.code; position = i } }

module _ {m : Machine} (k : Kept m) where
  pub with_output-kept : (o : Output) → OutputKept o → Kept (lift (λ p. with_output p o) m)
  with_output-kept o new =
      grouped_kept _ new (kept-errors k) (kept-host k) (kept-ports k) (kept-sending k) (kept-ram k) (kept-code k) (kept_lock k) (kept-settings k)

  pub with_errors-kept : (x : Errors) → ErrorsKept m.plain.settings x → Kept (lift (λ p. with_errors p x) m)
  with_errors-kept x new =
      grouped_kept _ (kept-output k) new (kept-host k) (kept-ports k) (kept-sending k) (kept-ram k) (kept-code k) (kept_lock k) (kept-settings k)

  pub with_breaks-kept : (b : Bool) → Kept (lift (λ p. with_breaks p b) m)
  with_breaks-kept b =
      grouped_kept _ (kept-output k) (kept-errors k) (kept-host k) (kept-ports k) (kept-sending k) (kept-ram k) (kept-code k) (kept_lock k) (kept-settings k)

  pub with_ports-kept : (x : Ports) → PortsKept m.plain.settings x → Kept (lift (λ p. with_ports p x) m)
  with_ports-kept x new =
      grouped_kept _ (kept-output k) (kept-errors k) (kept-host k) new (kept-sending k) (kept-ram k) (kept-code k) (kept_lock k) (kept-settings k)

  pub with_ram-kept : (r : List ℕ) → RamKept r → Kept (lift (λ p. with_ram p r) m)
  with_ram-kept r new =
      grouped_kept _ (kept-output k) (kept-errors k) (kept-host k) (kept-ports k) (kept-sending k) new (kept-code k) (kept_lock k) (kept-settings k)

  pub with_host-kept : (h : Host) → HostKept m.plain.settings h → (m.plain.locked ≡ true → h.pending ≡ 0) → Kept (lift (λ p. with_host p h) m)
  with_host-kept h new none =
      grouped_kept _ (kept-output k) (kept-errors k) new (kept-ports k) (kept-sending k) (kept-ram k) (kept-code k)
      (λ l. ((k.locked l).0, none l, (k.locked l).2), k.unlocked) (kept-settings k)

  pub with_sending-kept : (s : Sending) → SendingKept s → (m.plain.locked ≡ true → s.to ≡ 0) → Kept (lift (λ p. with_sending p s) m)
  with_sending-kept s new nobody =
      grouped_kept _ (kept-output k) (kept-errors k) (kept-host k) (kept-ports k) new (kept-ram k) (kept-code k)
      (λ l. ((k.locked l).0, (k.locked l).1, nobody l), k.unlocked) (kept-settings k)

  -- a lock code is changed only while not locked
  pub with_code_kept : (c : List ℕ) → CodeKept c → m.plain.locked ≡ false →
      Kept (with_secret m (record { code = c; position = m.secret.position }))
  with_code_kept c new unlocked =
      grouped_kept _ (kept-output k) (kept-errors k) (kept-host k) (kept-ports k) (kept-sending k) (kept-ram k) new
      (λ l. not_both l unlocked, k.unlocked) (kept-settings k)

  -- locked or not, with the position that goes with it
  pub with_lock_kept : (b : Bool) (i : ℕ) → LockKept (with_lock b i m) → Kept (with_lock b i m)
  with_lock_kept b i new =
      grouped_kept _ (kept-output k) (kept-errors k) (kept-host k) (kept-ports k) (kept-sending k) (kept-ram k) (kept-code k) new (kept-settings k)
