-- A data byte keeps the body rules, on a machine that is not locked.
-- Assumes nothing.
use Prim.Native.Nat.{ℕ, ◌%◌, ◌<◌, ◌≤◌}
use mathlib.Core.Path.{◌≡◌, refl}
use mathlib.Core.Bool.{false}
use mathlib.Core.List.{List, [], ◌∷◌, ◌++◌}
use native.Mathlib.Omega.{arith}
use lib.Dec.{eqb, ltb}
use lib.ListN.{length, get_or, length-append, get_or-append}
use lib.Seq.{get_or-set_other, get_or_at}
use borrow.Author.Tests.{eqb-true, eqb-false, leb-false, ltb-true, ltb-false}
use Rattle.translation.proofs.Tests.{split}
use Rattle.machine.specs.State.{Machine, lift}
use Rattle.machine.specs.Kept.{Kept}
use Rattle.machine.specs.DataPort.{settled, data_written, send, send_keyboard, latched, cell_written, plain_data}
use Rattle.machine.specs.DataPort.{dropped, appended, code_full, load_byte, write_data}
use Rattle.machine.proofs.Laws.Cond.{cond-holds, cond_both, not_both}
use Rattle.machine.proofs.Laws.KeptParts.{kept-host, with_host-kept, with_ports-kept, with_sending-kept, with_code_kept}
use Rattle.machine.proofs.Laws.KeptLines.{KeptWith, put-kept, put_mouse-kept, set-kept, with_mode-kept, keyboard_enabled-kept}

-- ---- settled, data_written, latched, cell_written: locked or not
module _ {m : Machine} (k : Kept m) where
  pub settled-kept : Kept (lift settled m)
  settled-kept = with_host-kept k _ (omega arith, omega arith, λ _. refl, k.nibble, k.no_nibble, k.even_nibble) (λ _. refl)

  pub data_written-kept : Kept (lift data_written m)
  data_written-kept = with_host-kept k _ (kept-host k) (λ l. (k.locked l).1)

  pub latched-kept : (v : ℕ) → Kept (lift (latched v) m)
  latched-kept v =
      with_ports-kept k _
      (k.pins, λ one ps2. simp (one, ps2) (k.latches one ps2), λ ps2. simp ps2 (k.p25 ps2), k.first_set, k.input_latches)

  pub cell_written-kept : (v : ℕ) → v < 256 → m.plain.host.pending ≡ 2 → Kept (lift (cell_written v) m)
  cell_written-kept v byte named =
      let other : 0 ≡ m.plain.host.cell → ⊥ = λ e. omega (arith, k.cell named) in
      set-kept k m.plain.host.cell v byte (rw get_or-set_other k.mode_byte)

-- ---- send, send_keyboard, dropped, appended: not locked
get_or-append-holds : (P : ℕ → Type 0) (c : List ℕ) (v : ℕ) → ((i : ℕ) → i < length c → P (get_or c i 0)) → P v →
    (i : ℕ) → i < length (c ++ v ∷ []) → P (get_or (c ++ v ∷ []) i 0)
get_or-append-holds P c v old new i h =
    split (ltb i (length c))
    (λ t. let inside : i < length c = ltb-true _ _ t in rw get_or-append (old i inside))
    (λ t. let last : length c ≡ i = omega (arith, ltb-false i (length c) t, length-append c (v ∷ [])) in rw get_or_at new)

module _ {m : Machine} (k : Kept m) (unlocked : m.plain.locked ≡ false) where
  pub send-kept : (to v : ℕ) → 1 ≤ to → to ≤ 2 → v < 256 → Kept (lift (send to v) m)
  send-kept to v low high byte = with_sending-kept k _ (high, byte, omega arith) (λ l. not_both l unlocked)

  pub dropped-kept : Kept (dropped m)
  dropped-kept = with_code_kept k [] (omega arith, omega arith) unlocked

  pub appended-kept : (v : ℕ) → 1 ≤ v → v < 256 → length m.secret.code < 16 → Kept (appended v m)
  appended-kept v some byte short =
      let c = m.secret.code in
      with_code_kept k (c ++ v ∷ [])
      (omega (arith, length-append c (v ∷ [])), get_or-append-holds (λ n. (1 ≤ n) × (n < 256)) c v k.code_bytes (some, byte))
      unlocked

pub send_keyboard-kept : {m : Machine} → Kept m → m.plain.locked ≡ false → (v : ℕ) → v < 256 → Kept (lift (send_keyboard v) m)
send_keyboard-kept k unlocked v byte = send-kept (keyboard_enabled-kept k) unlocked 1 v (omega arith) (omega arith) byte

-- ---- plain_data, load_byte, write_data
module _ {m : Machine} (k : Kept m) (unlocked : m.plain.locked ≡ false) (v : ℕ) (byte : v < 256) where
  pub plain_data-kept : Kept (lift (plain_data v) m)
  unfolding plain_data
  plain_data-kept =
      let P = KeptWith m.secret in
      let code = m.plain.host.pending in
      cond_both P (eqb code 1) (with_mode-kept k (v % 0x80) (omega arith))
      (cond-holds P (eqb code 2) (λ e. cell_written-kept k v byte (eqb-true _ _ e)) λ _.
      cond_both P (eqb code 4) (latched-kept k v)
      (cond_both P (eqb code 5) (put-kept k v byte)
      (cond_both P (eqb code 6) (put_mouse-kept k v byte)
      (cond_both P (eqb code 7) (send-kept k unlocked 2 v (omega arith) (omega arith) byte)
      (send_keyboard-kept k unlocked v byte)))))

  pub load_byte-kept : Kept (load_byte v m)
  unfolding load_byte
  load_byte-kept =
      cond-holds Kept (eqb v 0) (λ _. settled-kept k) λ some.
      cond-holds Kept (code_full m) (λ _. dropped-kept (settled-kept k) unlocked) λ short.
      appended-kept k unlocked v (omega (arith, eqb-false v 0 some)) byte (leb-false _ _ short)

pub write_data-kept : {m : Machine} → Kept m → m.plain.locked ≡ false → (v : ℕ) → v < 256 → Kept (write_data v m)
unfolding write_data
write_data-kept {m} k unlocked v byte =
    let k' = data_written-kept k in
    cond_both Kept (eqb m.plain.host.pending 3) (load_byte-kept k' unlocked v byte) (settled-kept (plain_data-kept k' unlocked v byte))
