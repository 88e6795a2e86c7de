-- What is put for the host, and a byte stored in the RAM, keep the body rules.
-- Assumes nothing.
use Prim.Native.Nat.{ℕ, ◌<◌}
use mathlib.Core.Path.{refl, ◌∙◌}
use native.Mathlib.Omega.{arith}
use lib.Dec.{eqb}
use lib.ListN.{length, get_or, set, length-set}
use lib.Seq.{get_or-set_same}
use Rattle.machine.specs.State.{Public, Secret, Machine, with_ram, lift}
use Rattle.machine.specs.Lines.{cell_of, with_mode, keyboard_disabled, keyboard_enabled, mouse_disabled, mouse_enabled, put, put_mouse, put_cell}
use Rattle.machine.specs.Kept.{Kept}
use Rattle.machine.proofs.Laws.Cond.{cond_both}
use Rattle.machine.proofs.Laws.Bounds.{get_or-set_below, clear_bit_below, set_bit_4_below, set_bit_5_below}
use Rattle.machine.proofs.Laws.KeptParts.{with_output-kept, with_ram-kept}

-- the rules of a machine with this secret part, said of its public part
abbrev pub KeptWith : Secret → Public → Type 0
KeptWith s p = Kept (record { plain = p; secret = s })

module _ {m : Machine} (k : Kept m) where
  -- ---- put, put_mouse, put_cell
  pub put-kept : (b : ℕ) → b < 256 → Kept (lift (put b) m)
  put-kept b byte = with_output-kept k _ (byte, λ _. refl)

  pub put_mouse-kept : (b : ℕ) → b < 256 → Kept (lift (put_mouse b) m)
  put_mouse-kept b byte = with_output-kept k _ (byte, λ _. refl)

  pub put_cell-kept : (i : ℕ) → Kept (lift (put_cell i) m)
  unfolding put_cell
  put_cell-kept i = cond_both (KeptWith m.secret) (eqb (cell_of m.plain i) 0) k (put-kept _ (k.cells i))

  -- ---- set, with_mode
  pub set-kept : (i v : ℕ) → v < 256 → get_or (set m.plain.ram i v) 0 0 < 128 → Kept (lift (λ p. with_ram p (set p.ram i v)) m)
  set-kept i v byte mode =
      with_ram-kept k _ (length-set m.plain.ram i v ∙ k.ram, get_or-set_below m.plain.ram i v 256 byte k.cells, mode)

  pub with_mode-kept : (v : ℕ) → v < 128 → Kept (lift (with_mode v) m)
  with_mode-kept v low =
      let some : 0 < length m.plain.ram = omega arith in
      set-kept 0 v (omega arith) (rw get_or-set_same low)

  -- ---- a device switched off or on
  pub keyboard_disabled-kept : Kept (lift keyboard_disabled m)
  keyboard_disabled-kept = with_mode-kept _ (set_bit_4_below _ k.mode_byte)

  pub keyboard_enabled-kept : Kept (lift keyboard_enabled m)
  keyboard_enabled-kept = with_mode-kept _ (clear_bit_below _ 4 128 k.mode_byte)

  pub mouse_disabled-kept : Kept (lift mouse_disabled m)
  mouse_disabled-kept = with_mode-kept _ (set_bit_5_below _ k.mode_byte)

  pub mouse_enabled-kept : Kept (lift mouse_enabled m)
  mouse_enabled-kept = with_mode-kept _ (clear_bit_below _ 5 128 k.mode_byte)
