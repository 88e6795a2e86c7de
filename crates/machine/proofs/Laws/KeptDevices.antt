-- What arrives from the keyboard, the mouse and the wire keeps the body rules.
-- Assumes nothing.
use Prim.Native.Nat.{ℕ, ◌<◌}
use mathlib.Core.Path.{◌≡◌, refl}
use mathlib.Core.Bool.{Bool, true, false, ◌||◌}
use mathlib.Core.List.{List}
use native.Mathlib.Omega.{arith}
use lib.Dec.{eqb}
use lib.ListN.{get_or}
use Rattle.translation.specs.Frames.{Check, sound, parity, broken, noise}
use Rattle.translation.specs.ScanCodes.{Translation, Yielded, nothing, byte, raw}
use Rattle.translation.proofs.ScanCodes.{translate_below}
use Rattle.machine.specs.State.{Public, Machine, lift}
use Rattle.machine.specs.Lines.{inhibited, mouse_inhibited, translates}
use Rattle.machine.specs.Devices.{errors_set, not_taken, positioned, key_error, damaged_key, ignored, lock_cleared}
use Rattle.machine.specs.Devices.{unlocked, key_matched, try, yield_delivered, byte_delivered, translated, sound_key, keyboard_frame}
use Rattle.machine.specs.Devices.{mouse_put, mouse_frame, idle, taken, timed_out, pinned}
use Rattle.machine.specs.Lock.{shorter, reached, key_completes}
use Rattle.machine.specs.Kept.{Kept}
use Rattle.machine.proofs.Laws.Lock.{longest-below}
use Rattle.machine.proofs.Laws.Cond.{cond-holds, cond_both, not_both}
use Rattle.machine.proofs.Laws.KeptParts.{with_errors-kept, with_breaks-kept, with_ports-kept, with_sending-kept, with_lock_kept}
use Rattle.machine.proofs.Laws.KeptLines.{KeptWith, put-kept, put_mouse-kept, put_cell-kept}

-- ---- positioned, lock_cleared, unlocked, try
module _ {m : Machine} (k : Kept m) where
  pub positioned_zero_kept : Kept (positioned 0 m)
  positioned_zero_kept =
      with_lock_kept k m.plain.locked 0 (λ l. (omega (arith, k.locked l), (k.locked l).1, (k.locked l).2), λ _. refl)

  pub lock_cleared-kept : Kept (lock_cleared m)
  lock_cleared-kept = with_lock_kept k false 0 (λ l. not_both l refl, λ _. refl)

  pub unlocked-kept : Kept (unlocked m)
  unlocked-kept = put_cell-kept lock_cleared-kept 0x14

  module _ (l : m.plain.locked ≡ true) where
    pub positioned-reached-kept : (keys : List ℕ) → Kept (positioned (reached m.secret.code keys) m)
    positioned-reached-kept keys =
        let inside = k.locked l in
        let below = longest-below m.secret.code keys (shorter m.secret.code) in
        with_lock_kept k m.plain.locked _ (λ _. (omega (arith, below, inside.0), inside.1, inside.2), λ u. not_both l u)

    pub try-kept : (x : ℕ) → Kept (try x m)
    unfolding try key_matched
    try-kept x =
        cond_both Kept (ignored x m.plain) k (cond_both Kept (key_completes _ _ x) unlocked-kept (positioned-reached-kept _))

-- ---- errors_set
pub errors_set-kept : {m : Machine} → Kept m → (t e : Bool) → Kept (lift (errors_set t e) m)
errors_set-kept k t e = with_errors-kept k _ (λ _. refl)

-- ---- key_error, damaged_key
pub key_error-kept : {m : Machine} → Kept m → Kept (lift key_error m)
unfolding key_error
key_error-kept {m} k =
    cond_both (KeptWith m.secret) (m.plain.locked || inhibited m.plain) k (put-kept k 0xFF (omega arith))

pub damaged_key-kept : {m : Machine} → Kept m → (t e : Bool) → Kept (damaged_key t e m)
damaged_key-kept k t e = positioned_zero_kept (key_error-kept (with_breaks-kept (errors_set-kept k t e) false))

-- ---- translated, yield_delivered, byte_delivered, sound_key
pub translated_below : (b : ℕ) (p : Public) → ((k : ℕ) → get_or p.settings.table k 0 < 256) → b < 256 → (x : ℕ) → (translated b p).yields ≡ byte x → x < 256
unfolding translated raw
translated_below b p bytes small =
    cond-holds (λ (t : Translation). (x : ℕ) → t.yields ≡ byte x → x < 256) (translates p || p.locked)
    (λ _. translate_below p.settings.table bytes b p.breaks) (λ _ x e. let same : b ≡ x = cc in omega arith)

pub yield_delivered-kept : {m : Machine} → Kept m → (y : Yielded) → ((x : ℕ) → y ≡ byte x → x < 256) → Kept (yield_delivered y m)
unfolding yield_delivered byte_delivered
yield_delivered-kept k nothing small = k
yield_delivered-kept {m} k (byte x) small =
    cond_both Kept (inhibited m.plain) k
    (cond-holds Kept m.plain.locked (λ l. try-kept k l x) (λ _. put-kept k x (small x refl)))

pub sound_key-kept : {m : Machine} → Kept m → (b : ℕ) → b < 256 → Kept (sound_key b m)
unfolding sound_key
sound_key-kept {m} k b small =
    yield_delivered-kept (with_breaks-kept (errors_set-kept k false false) _) _ (translated_below b m.plain k.entries small)

-- ---- keyboard_frame
pub keyboard_frame-kept : {m : Machine} → Kept m → (c : Check) → ((b : ℕ) → c ≡ sound b → b < 256) → Kept (keyboard_frame c m)
unfolding keyboard_frame
keyboard_frame-kept k (sound b) small = sound_key-kept k b (small b refl)
keyboard_frame-kept k parity small = damaged_key-kept k false true
keyboard_frame-kept k broken small = damaged_key-kept k true false
keyboard_frame-kept k noise small = k

-- ---- mouse_put, mouse_frame
pub mouse_put-kept : {m : Machine} → Kept m → (b : ℕ) → b < 256 → Kept (lift (mouse_put b) m)
unfolding mouse_put
mouse_put-kept {m} k b small =
    cond_both (KeptWith m.secret) (m.plain.locked || mouse_inhibited m.plain) k (put_mouse-kept k b small)

pub mouse_frame-kept : {m : Machine} → Kept m → (c : Check) → ((b : ℕ) → c ≡ sound b → b < 256) → Kept (lift (mouse_frame c) m)
unfolding mouse_frame
mouse_frame-kept k (sound b) small = mouse_put-kept (errors_set-kept k false false) b (small b refl)
mouse_frame-kept k parity small = mouse_put-kept (errors_set-kept k false true) 0xFF (omega arith)
mouse_frame-kept k broken small = mouse_put-kept (errors_set-kept k true false) 0xFF (omega arith)
mouse_frame-kept k noise small = k

module _ {m : Machine} (k : Kept m) where
  -- ---- idle, taken, timed_out
  pub idle-kept : Kept (lift idle m)
  idle-kept = with_sending-kept k _ (omega arith, omega arith, λ _. refl) (λ _. refl)

  pub taken-kept : Kept (lift taken m)
  taken-kept = errors_set-kept idle-kept false false

  pub timed_out-kept : Kept (lift timed_out m)
  unfolding timed_out
  timed_out-kept =
      let k' : Kept (lift not_taken (lift idle m)) = with_errors-kept idle-kept _ (λ ps2. ps2) in
      cond_both (KeptWith m.secret) (eqb m.plain.sending.to 2) (put_mouse-kept k' 0xFE (omega arith))
      (put-kept k' 0xFE (omega arith))

  -- ---- pinned
  pub pinned-kept : (v : ℕ) → v < 256 → Kept (lift (pinned v) m)
  pinned-kept v small = with_ports-kept k _ (small, k.latches, k.p25, k.first_set, k.input_latches)
