-- Document 02, W5, said of events: which keys a lock counts and where it opens, by the list of all keys counted, and the promise that the machine,
-- which keeps only a position, follows this rule. It is proved in proofs/Laws/Counting.
use Rattle.std.specs.Prelude.{ℕ, ◌≡◌, Bool, true, false, cond, not, ◌&&◌, ◌||◌, List, [], ◌∷◌, eqb}
use Rattle.translation.specs.Frames.{Check, sound, parity, broken, noise, check}
use Rattle.translation.specs.ScanCodes.{Yielded, nothing, byte}
use Rattle.machine.specs.State.{Public, Machine}
use Rattle.machine.specs.Lines.{inhibited}
use Rattle.machine.specs.Lock.{code_typed, reached}
use Rattle.machine.specs.Devices.{ignored, translated}
use Rattle.machine.specs.Events.{Event, value, refusal, step}

-- What an event does to the keys counted: it adds this key, it starts counting again, or neither.
pub data Counting : Type 0 where
  counts : ℕ → Counting
  starts : Counting
  passes : Counting

-- A byte that inhibit swallows is not counted, nor one that is ignored.
unfoldable pub byte_counting : Yielded → Public → Counting
byte_counting nothing p = passes
byte_counting (byte x) p = cond (inhibited p || ignored x p) passes (counts x)

-- Counting starts afresh after a broken frame and one of wrong parity, not after noise.
unfoldable pub frame_counting : Check → Public → Counting
frame_counting (sound b) p = byte_counting (translated b p).yields p
frame_counting parity p = starts
frame_counting broken p = starts
frame_counting noise p = passes

-- Of the events while locked, the accepted frames from the keyboard matter.
unfoldable pub lock_counting : Public → Event → Counting
lock_counting p e = cond (eqb e.kind 4 && eqb (refusal p e) 0) (frame_counting (check (value e)) p) passes

-- Counting starts at locking.
unfoldable pub counting : Public → Event → Counting
counting p e = cond p.locked (lock_counting p e) starts

-- the keys counted after that, the newest first
unfoldable pub keys_with : Counting → List ℕ → List ℕ
keys_with (counts x) keys = x ∷ keys
keys_with starts keys = []
keys_with passes keys = keys

-- The lock opens at a key that is counted, by the rule, and at nothing else.
unfoldable pub counting_completes : List ℕ → Counting → List ℕ → Bool
counting_completes code (counts x) keys = code_typed code (x ∷ keys)
counting_completes code starts keys = false
counting_completes code passes keys = false

-- the keys counted after a list of events, where these were before it
unfoldable pub keys_after : Machine → List Event → List ℕ → List ℕ
keys_after m [] keys = keys
keys_after m (e ∷ es) keys = keys_after (step m e) es (keys_with (counting m.plain e) keys)

-- Locked, the machine has the position that the keys lead to, and each event opens the lock exactly if the rule says so.
pub record ByRule (m : Machine) (keys : List ℕ) : Type 0 where
  pub position : m.plain.locked ≡ true → m.secret.position ≡ reached m.secret.code keys
  pub unlocks : (e : Event) → m.plain.locked ≡ true → (step m e).plain.locked ≡ not (counting_completes m.secret.code (counting m.plain e) keys)
