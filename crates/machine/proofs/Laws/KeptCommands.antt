-- A command byte keeps the body rules, on a machine that is not locked and sends to nobody.
-- Assumes nothing.
use Prim.Native.Nat.{ℕ, ◌/◌, ◌%◌, ◌<◌, ◌≤◌}
use mathlib.Core.Path.{◌≡◌, refl, ap}
use mathlib.Core.Bool.{true, false, not, ◌&&◌}
use native.Mathlib.Omega.{arith}
use lib.Dec.{eqb, leb}
use lib.ListN.{length}
use borrow.Author.Tests.{eqb-true, eqb-false, ne_eqb, leb-true, le-leb, not-true}
use Rattle.translation.proofs.Tests.{and_true}
use Rattle.machine.specs.State.{Machine, lift}
use Rattle.translation.specs.Bits.{within, clear_bit}
use Rattle.machine.specs.Lines.{second_set, mode, input_port}
use Rattle.machine.specs.SecondSet.{second_only}
use Rattle.machine.specs.Commands.{understood, polled, pending_of, cell_named, command_written, load_cut, overlaid, self_tested, plain_command}
use Rattle.machine.specs.Commands.{has_code, code_asked, lock_set, lock_command, acts, write_command}
use Rattle.machine.specs.Kept.{Kept}
use Rattle.machine.proofs.Laws.Cond.{cond-holds, cond_both, not_both}
use Rattle.machine.proofs.Laws.Commands.{Known, understood-known}
use Rattle.machine.proofs.Laws.Bounds.{input_port_below, polled_below, polled_even}
use Rattle.machine.proofs.Laws.Bounds.{output_port_below, test_inputs_below, clear_bit_below, set_bit_2_below}
use Rattle.machine.proofs.Laws.KeptParts.{with_host-kept, with_lock_kept}
use Rattle.machine.proofs.Laws.KeptLines.{KeptWith, put-kept, put_cell-kept, with_mode-kept}
use Rattle.machine.proofs.Laws.KeptLines.{keyboard_disabled-kept, keyboard_enabled-kept, mouse_disabled-kept, mouse_enabled-kept}
use Rattle.machine.proofs.Laws.KeptDataPort.{dropped-kept}
use Rattle.machine.proofs.Laws.KeptSecondSet.{second_command-kept}

-- ---- within, pending_of, cell_named
within_true : (low high c : ℕ) → within low high c ≡ true → (low ≤ c) × (c ≤ high)
within_true low high c e =
    let (above, below) = and_true (leb low c) (leb c high) e in
    (leb-true _ _ above, leb-true _ _ below)

-- what is true of each code is true of the one that a command leaves; code 2 may count on the command's bounds
pending_of-holds : (P : ℕ → Type 0) (c : ℕ) → ((0x61 ≤ c) × (c ≤ 0x7F) → P 2) → P 0 × P 1 × P 3 × P 4 × P 5 × P 6 × P 7 → P (pending_of c)
unfolding pending_of
pending_of-holds P c named each =
    cond_both P (eqb c 0x60) each.1
    (cond-holds P (within 0x61 0x7F c) (λ e. named (within_true _ _ c e)) λ _.
    cond_both P (eqb c 0xA5) each.2
    (cond_both P (eqb c 0xD1) each.3
    (cond_both P (eqb c 0xD2) each.4
    (cond_both P (eqb c 0xD3) each.5 (cond_both P (eqb c 0xD4) each.6 each.0)))))

pub pending_of_le : (c : ℕ) → pending_of c ≤ 7
pending_of_le c = pending_of-holds (λ n. n ≤ 7) c (omega arith) (omega arith)

pub pending_of-cell : (c : ℕ) → pending_of c ≡ 2 → (0x61 ≤ c) × (c ≤ 0x7F)
pending_of-cell c = pending_of-holds (λ n. n ≡ 2 → (0x61 ≤ c) × (c ≤ 0x7F)) c (λ bounds _. bounds) (omega arith)

-- a load is begun by A5h alone
pub pending_of-load : (c : ℕ) → pending_of c ≡ 3 → c ≡ 0xA5
unfolding pending_of
pending_of-load c =
    let P : ℕ → Type 0 = λ n. n ≡ 3 → c ≡ 0xA5 in
    cond_both P (eqb c 0x60) (λ e. omega arith)
    (cond_both P (within 0x61 0x7F c) (λ e. omega arith)
    (cond-holds P (eqb c 0xA5) (λ e _. eqb-true c 0xA5 e) λ _.
    cond_both P (eqb c 0xD1) (λ e. omega arith)
    (cond_both P (eqb c 0xD2) (λ e. omega arith)
    (cond_both P (eqb c 0xD3) (λ e. omega arith) (cond_both P (eqb c 0xD4) (λ e. omega arith) (λ e. omega arith))))))

pub pending_of-within : (c : ℕ) → within 0x61 0x7F c ≡ true → pending_of c ≡ 2
unfolding pending_of
pending_of-within c e = simp (ne_eqb c 0x60 (omega (arith, within_true 0x61 0x7F c e)), e)

pub cell_named_some : (c : ℕ) → pending_of c ≡ 2 → (1 ≤ cell_named c) × (cell_named c ≤ 31)
cell_named_some c e =
    let (low, high) = pending_of-cell c e in
    simp (le-leb _ _ low, le-leb _ _ high) (omega arith)

pub cell_named-none : (c : ℕ) → (pending_of c ≡ 2 → ⊥) → cell_named c ≡ 0
cell_named-none c other =
    cond-holds (λ n. n ≡ 0) (within 0x61 0x7F c) (λ e. absurd (other (pending_of-within c e))) (λ _. refl)

module _ {m : Machine} (k : Kept m) where
  -- ---- overlaid, self_tested, plain_command
  pub overlaid-kept : (n : ℕ) → n < 16 → Kept (lift (overlaid (polled n m.plain)) m)
  overlaid-kept n low =
      with_host-kept k _
      (k.pending, k.cell, k.no_cell, polled_below n m.plain low, λ o. not_both refl o, polled_even n m.plain)
      (λ l. (k.locked l).1)

  pub self_tested-kept : Kept (lift self_tested m)
  self_tested-kept =
      let on : clear_bit (clear_bit (mode m.plain) 4) 5 < 128 = clear_bit_below _ 5 128 (clear_bit_below _ 4 128 k.mode_byte) in
      put-kept (with_mode-kept k _ (set_bit_2_below _ on)) 0x55 (omega arith)

  pub plain_command-kept : (c : ℕ) → (second_set m.plain ≡ false → second_only c ≡ false) → Kept (lift (plain_command c) m)
  unfolding plain_command
  plain_command-kept c known =
      let P = KeptWith m.secret in
      let p = m.plain in
      let port = input_port_below p k.pins in
      cond_both P (within 0x20 0x3F c) (put-kept k _ (k.cells _))
      (cond_both P (eqb c 0xA7) (mouse_disabled-kept k)
      (cond_both P (eqb c 0xA8) (mouse_enabled-kept k)
      (cond_both P (eqb c 0xA9) (put-kept k 0 (omega arith))
      (cond_both P (eqb c 0xAA) self_tested-kept
      (cond_both P (eqb c 0xAB) (put-kept k 0 (omega arith))
      (cond_both P (eqb c 0xAD) (keyboard_disabled-kept k)
      (cond_both P (eqb c 0xAE) (keyboard_enabled-kept k)
      (cond_both P (eqb c 0xC0) (put-kept k _ port)
      (cond_both P (eqb c 0xC1) (overlaid-kept (input_port p % 16) (omega arith))
      (cond_both P (eqb c 0xC2) (overlaid-kept (input_port p / 16) (omega (arith, port)))
      (cond_both P (eqb c 0xD0) (put-kept k _ (output_port_below p))
      (cond_both P (eqb c 0xE0) (put-kept k _ (test_inputs_below p)) (second_command-kept k c known)))))))))))))

  -- ---- code_asked, lock_set, lock_command
  pub code_asked-kept : Kept (code_asked m)
  unfolding code_asked
  code_asked-kept = cond_both Kept (has_code m && not (second_set m.plain)) (put-kept k 0xFA (omega arith)) (put-kept k 0xF1 (omega arith))

  module _ (settled : m.plain.host.pending ≡ 0) (nobody : m.plain.sending.to ≡ 0) where
    pub lock_set-kept : has_code m ≡ true → Kept (lock_set m)
    lock_set-kept some =
        let other : length m.secret.code ≡ 0 → ⊥ = eqb-false _ _ (not-true _ some) in
        with_lock_kept k true 0 (λ _. (omega arith, settled, nobody), λ _. refl)

    pub lock_command-kept : Kept (lock_command m)
    unfolding lock_command
    lock_command-kept = cond-holds Kept (has_code m) (λ some. put_cell-kept (lock_set-kept some) 0x13) λ _. k

-- ---- command_written, acts, write_command
module _ {m : Machine} (k : Kept m) (unlocked : m.plain.locked ≡ false) (c : ℕ) (known : Known m.plain.settings c) where
  pub command_written-kept : Kept (lift (command_written c) m)
  command_written-kept =
      with_host-kept k _ (
        pending_of_le c,
        cell_named_some c,
        cell_named-none c,
        omega arith,
        λ _. refl,
        λ _. refl,
      )
      (λ l. not_both l unlocked)

  pub acts-kept : (c ≡ 0xA6 → m.plain.host.pending ≡ 0) → m.plain.sending.to ≡ 0 → Kept (acts c m)
  unfolding acts
  acts-kept settled nobody =
      cond_both Kept (eqb c 0xA4) (code_asked-kept k)
      (cond_both Kept (eqb c 0xA5) (dropped-kept k unlocked)
      (cond-holds Kept (eqb c 0xA6) (λ e. lock_command-kept k (settled (eqb-true _ _ e)) nobody) λ _. plain_command-kept k c known.second))

-- after the command has been written its own pending code stands, which is none for A6h
acts_written_kept : {m : Machine} → Kept m → m.plain.locked ≡ false → m.plain.sending.to ≡ 0 → (c : ℕ) → Known m.plain.settings c →
    Kept (acts c (lift (command_written c) m))
unfolding pending_of
acts_written_kept k unlocked nobody c known =
    acts-kept (command_written-kept k unlocked c known) unlocked c known (λ e. ap pending_of e) nobody

pub write_command-kept : {m : Machine} → Kept m → m.plain.locked ≡ false → m.plain.sending.to ≡ 0 → (c : ℕ) → Kept (write_command c m)
unfolding write_command load_cut
write_command-kept {m} k unlocked nobody c =
    let known = understood m.plain.settings c in
    cond_both (λ x. Kept (acts known (lift (command_written known) x))) (eqb m.plain.host.pending 3)
    (acts_written_kept (dropped-kept k unlocked) unlocked nobody known (understood-known m.plain.settings c))
    (acts_written_kept k unlocked nobody known (understood-known m.plain.settings c))
