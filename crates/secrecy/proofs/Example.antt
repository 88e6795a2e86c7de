-- Lists that differ in the code and in the key that opens the lock are paired, so that the theorem speaks of more than equal lists.
-- Assumes nothing.
use Prim.Native.Nat.{ℕ, zero, suc, ◌<◌}
use mathlib.Core.Path.{◌≡◌, refl, sym, ◌∙◌, subst₂}
use mathlib.Core.Bool.{Bool, false}
use mathlib.Core.List.{List, [], ◌∷◌}
use mathlib.Core.Option.{some}
use native.Mathlib.Omega.{arith}
use lib.Dec.{eqb, lit≤}
use Rattle.translation.specs.Frames.{check, ones}
use Rattle.translation.specs.KeyTable.{built_in, rows}
use Rattle.translation.specs.ScanCodes.{translate}
use Rattle.machine.specs.Settings.{Settings}
use Rattle.machine.specs.State.{fresh}
use Rattle.machine.specs.Lines.{input_port, put_cell}
use Rattle.machine.specs.DataPort.{load_byte, write_data}
use Rattle.machine.specs.Commands.{pending_of, load_cut, plain_command, lock_command, acts, write_command}
use Rattle.machine.specs.Lock.{end_with, longest, begun}
use Rattle.machine.specs.Devices.{key_matched, try, yield_delivered, byte_delivered, translated, sound_key, keyboard_frame}
use Rattle.machine.specs.Events.{Event, refusal, state_refusal, accept, step}
use Rattle.machine.specs.Run.{after}
use Rattle.secrecy.specs.Paired.{At, before, Allowed, same, loading, trying, opens_at, Paired}

abbrev pub event : ℕ → ℕ → ℕ → Event
event k l h = record { kind = k; low = l; high = h }

-- keyboard on, code v loaded, locked, and the key of frame 400h + l
abbrev pub typed : ℕ → ℕ → List Event
typed v l = event 3 0xAE 0 ∷ event 3 0xA5 0 ∷ event 1 v 0 ∷ event 1 0 0 ∷ event 3 0xA6 0 ∷ event 4 l 4 ∷ []

-- code 1Eh opened by 1Ch, and code 30h by 32h
abbrev pub first : List Event
first = typed 0x1E 0x38

abbrev pub second : List Event
second = typed 0x30 0x64

some_injective : {e f : Event} → some e ≡ some f → e ≡ f
some_injective p = cc

-- whichever settings of PS/2 mode with the first command set both start with; in AT mode or with the second set no code can be loaded, so that
-- lists from fresh are paired only where they are equal
module _ (lock : Bool) (version : ℕ) where
  abbrev x : Settings
  x = record { mouse_lock = lock; at_mode = false; second_set = false; version = version; table = built_in }

  differ : (k : ℕ) (e f : Event) → At first k e → At second k f → Allowed (before (fresh x) first k) e f
  unfolding fresh after step refusal state_refusal accept write_command acts load_cut pending_of plain_command lock_command put_cell write_data load_byte check ones
  differ zero e f p q = same (cc)
  differ (suc zero) e f p q = same (cc)
  differ (suc (suc zero)) e f p q =
      subst₂ (Allowed (before (fresh x) first 2)) (some_injective p) (some_injective q)
      (loading refl (record { kind = refl; low = lit≤ tt; high = lit≤ tt }) (record { kind = refl; low = lit≤ tt; high = lit≤ tt }))
  differ (suc (suc (suc zero))) e f p q = same (cc)
  differ (suc (suc (suc (suc zero)))) e f p q = same (cc)
  differ (suc (suc (suc (suc (suc zero))))) e f p q =
      subst₂ (Allowed (before (fresh x) first 5)) (some_injective p) (some_injective q)
      (trying refl (record { kind = refl; byte = 0x1C; frame = refl; low = lit≤ tt; high = lit≤ tt })
      (record { kind = refl; byte = 0x32; frame = refl; low = lit≤ tt; high = lit≤ tt }))
  differ (suc (suc (suc (suc (suc (suc k)))))) e f p q = same (cc)

  -- in both lists the lock opens at the last place and at no other
  pub opens_at_last : (k : ℕ) → k < 6 → (opens_at (fresh x) first k ≡ eqb k 5) × (opens_at (fresh x) second k ≡ eqb k 5)
  unfolding fresh after step refusal state_refusal accept write_command acts load_cut pending_of plain_command lock_command put_cell write_data load_byte check ones
      input_port keyboard_frame sound_key translated translate built_in rows yield_delivered byte_delivered try key_matched end_with longest begun
  opens_at_last zero h = (refl, refl)
  opens_at_last (suc zero) h = (refl, refl)
  opens_at_last (suc (suc zero)) h = (refl, refl)
  opens_at_last (suc (suc (suc zero))) h = (refl, refl)
  opens_at_last (suc (suc (suc (suc zero)))) h = (refl, refl)
  opens_at_last (suc (suc (suc (suc (suc zero))))) h = (refl, refl)
  opens_at_last (suc (suc (suc (suc (suc (suc k)))))) h = absurd (omega arith)

  pub paired : Paired (fresh x) first second
  paired = record { lengths = refl; differ = differ; openings = λ k h. (opens_at_last k h).0 ∙ sym (opens_at_last k h).1 }
