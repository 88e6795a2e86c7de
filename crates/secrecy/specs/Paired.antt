-- "Two lists compared": the pairs of event lists that demand 3 is about, said of the machine alone. Both run from one machine, any machine.
use Rattle.std.specs.Prelude.{ℕ, suc, ◌≤◌, ◌<◌, ◌≡◌, Bool, true, not, ◌&&◌, List, length, take}
use Rattle.std.proofs.Math.Option.{some}
use Rattle.std.proofs.Math.ListN.{get_elem?}
use Rattle.translation.specs.Frames.{check, sound}
use Rattle.machine.specs.State.{Machine}
use Rattle.machine.specs.Events.{Event, value}
use Rattle.machine.specs.Run.{after}

-- Event e stands at place k of the list.
abbrev pub At : List Event → ℕ → Event → Type 0
At es k e = get_elem? es k ≡ some e

-- What holds at place k: the machine that the events before it leave, run from m.
abbrev pub before : Machine → List Event → ℕ → Machine
before m es k = after m (take k es)

-- kind 1 with a value from 01h to FFh
pub record CodeByte (e : Event) : Type 0 where
  pub kind : e.kind ≡ 1
  pub low : 0x01 ≤ value e
  pub high : value e ≤ 0xFF

-- kind 4 with a sound frame of a byte from 01h to 7Fh
pub record Key (e : Event) : Type 0 where
  pub kind : e.kind ≡ 4
  pub byte : ℕ
  pub frame : check (value e) ≡ sound byte
  pub low : 0x01 ≤ byte
  pub high : byte ≤ 0x7F

-- The events of one place, m the machine before it: equal, or different in one of two cases, whether they are refused or not.
pub data Allowed (m : Machine) (e f : Event) : Type 0 where
  same : e ≡ f → Allowed m e f
  loading : m.plain.host.pending ≡ 3 → CodeByte e → CodeByte f → Allowed m e f
  trying : m.plain.locked ≡ true → Key e → Key f → Allowed m e f

-- The lock opens at place k: locked before this list's own event there, and no longer locked after it.
abbrev pub opens_at : Machine → List Event → ℕ → Bool
opens_at m es k = (before m es k).plain.locked && not (before m es (suc k)).plain.locked

-- Paired lists have the same length. What holds at a place is judged by the first list; where the lock opens is judged by each list itself.
pub record Paired (m : Machine) (es fs : List Event) : Type 0 where
  pub lengths : length es ≡ length fs
  pub differ : (k : ℕ) (e f : Event) → At es k e → At fs k f → Allowed (before m es k) e f
  pub openings : (k : ℕ) → k < length es → opens_at m es k ≡ opens_at m fs k
