-- "How the contracts are judged", 4: worked examples as the rows of one table, and what it is for a row to hold of the machine from fresh,
-- started with the ordinary settings.
use Rattle.std.specs.Prelude.{ℕ, ◌/◌, ◌%◌, Bool, true, false, cond, not, ◌&&◌, ◌||◌, List, [], ◌∷◌, ◌++◌, map, get_or, eqb}
use Rattle.translation.specs.Frames.{Check, sound, parity, broken, noise, check, frame}
use Rattle.translation.specs.KeyTable.{numbers_from}
use Rattle.machine.specs.Settings.{ordinary}
use Rattle.machine.specs.State.{Machine, fresh}
use Rattle.machine.specs.Lock.{same}
use Rattle.machine.specs.Events.{Event, event, step, answer}
use Rattle.machine.specs.Run.{after}

pub data Row : Type 0 where
  -- Keys of these set 2 bytes, with the keyboard on as AEh leaves it, are read at port 60h as these bytes.
  gives : List ℕ → List ℕ → Row
  -- The check finds this of the frame, and the status and the byte read after it, untranslated, show as much.
  found : ℕ → Check → Row
  -- With this code loaded and the lock closed, keys of these set 2 bytes open it at the last one, and it is closed before each.
  unlocks : List ℕ → List ℕ → Row
  -- Of a load of this many nonzero bytes and 00h, A4h says that there is a code and the code is these bytes, or that there is none.
  loads : ℕ → Bool → Row

-- the host's writes and reads, and a frame from the keyboard
abbrev pub command_write : ℕ → Event
command_write c = event 3 c 0

abbrev pub data_write : ℕ → Event
data_write v = event 1 v 0

abbrev pub data_read : Event
data_read = event 0 0 0

abbrev pub status_read : Event
status_read = event 2 0 0

abbrev pub byte_taken : Event
byte_taken = event 6 0 0

abbrev pub frame_event : ℕ → Event
frame_event f = event 4 (f % 256) (f / 256)

abbrev pub key : ℕ → Event
key b = frame_event (frame b)

-- each key followed by a read of port 60h
abbrev pub typed : List ℕ → List Event
typed [] = []
typed (b ∷ bs) = key b ∷ data_read ∷ typed bs

-- a code loaded by A5h and ended by 00h
abbrev pub load_events : List ℕ → List Event
load_events code = command_write 0xA5 ∷ (map data_write code ++ (data_write 0 ∷ []))

-- the byte of an accepted read that is not marked old
abbrev pub new_byte : ℕ → List ℕ → List ℕ
new_byte kind a =
    cond ((eqb kind 0 || eqb kind 2) && (eqb (get_or a 0 0) 0 && eqb (get_or a 2 0) 0)) (get_or a 1 0 ∷ []) []

-- all such bytes of a list of events
abbrev pub reads : Machine → List Event → List ℕ
reads m [] = []
reads m (e ∷ es) = new_byte e.kind (answer m e) ++ reads (step m e) es

-- status and byte after a frame: OBF and P1 bit 7, with PERR for a wrong parity and TERR for a broken frame; after noise no byte
abbrev pub shown : Check → List ℕ
shown (sound b) = 0x11 ∷ b ∷ []
shown parity = 0x91 ∷ 0xFF ∷ []
shown broken = 0x51 ∷ 0xFF ∷ []
shown noise = 0x10 ∷ []

-- closed before each key, open after the last
abbrev pub unlocked_at_end : Machine → List ℕ → Bool
unlocked_at_end m [] = not m.plain.locked
unlocked_at_end m (b ∷ bs) = m.plain.locked && unlocked_at_end (step m (key b)) bs

-- a load of the bytes 1 to n and 00h, which goes to the keyboard where the load has ended before it
abbrev pub load_of_count : ℕ → List Event
load_of_count n = load_events (numbers_from 1 n) ++ (byte_taken ∷ [])

abbrev pub code_after : List Event → List ℕ
code_after es = (after (fresh ordinary) es).secret.code

-- What a row says, of the machine from fresh. The mode byte 00h has the keyboard on and translation off.
unfoldable pub holds : Row → Bool
holds (gives bytes codes) = same (reads (fresh ordinary) (command_write 0xAE ∷ typed bytes)) codes
holds (found f c) =
    same (shown (check f)) (shown c)
    && same (reads (fresh ordinary) (command_write 0x60 ∷ data_write 0 ∷ frame_event f ∷ status_read ∷ data_read ∷ [])) (shown c)
holds (unlocks code bytes) = unlocked_at_end (after (fresh ordinary) (command_write 0xAE ∷ (load_events code ++ (command_write 0xA6 ∷ [])))) bytes
holds (loads n ok) =
    same (code_after (load_of_count n)) (cond ok (numbers_from 1 n) [])
    && same (reads (fresh ordinary) (load_of_count n ++ (command_write 0xA4 ∷ data_read ∷ []))) (cond ok 0xFA 0xF1 ∷ [])

-- every row of a table holds
unfoldable pub all_hold : List Row → Bool
all_hold [] = true
all_hold (r ∷ rs) = holds r && all_hold rs

-- The keys are Ctrl, Alt, keypad + and keypad -, then keypad + released; the frames bytes F0h and 14h, 14h with the other parity bit, and
-- all ones, where the start bit is wrong; the code is the keys A and B in set 1.
unfoldable pub table : List Row
table =
    gives (0x14 ∷ []) (0x1D ∷ []) ∷
    gives (0x11 ∷ []) (0x38 ∷ []) ∷
    gives (0x79 ∷ []) (0x4E ∷ []) ∷
    gives (0x7B ∷ []) (0x4A ∷ []) ∷
    gives (0xF0 ∷ 0x79 ∷ []) (0xCE ∷ []) ∷
    found 0x7E0 (sound 0xF0) ∷
    found 0x628 (sound 0x14) ∷
    found 0x428 parity ∷
    found 2047 noise ∷
    unlocks (0x1E ∷ 0x30 ∷ []) (0x1C ∷ 0x32 ∷ []) ∷
    loads 16 true ∷
    loads 17 false ∷ []

-- Document 02, W5: the code is the keys A A B, and before it comes one A too many, or A B.
unfoldable pub mismatches : List Row
mismatches =
    unlocks (0x1E ∷ 0x1E ∷ 0x30 ∷ []) (0x1C ∷ 0x1C ∷ 0x1C ∷ 0x32 ∷ []) ∷
    unlocks (0x1E ∷ 0x1E ∷ 0x30 ∷ []) (0x1C ∷ 0x32 ∷ 0x1C ∷ 0x1C ∷ 0x32 ∷ []) ∷ []
