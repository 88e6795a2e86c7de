-- Laws of the definitions in specs/DataPort. Assumes nothing.
use mathlib.Core.Path.{◌≡◌}
use Prim.Native.Nat.{ℕ, ◌%◌}
use borrow.Author.Tests.{eq-eqb, ne_eqb}
use Rattle.machine.specs.State.{Machine, lift}
use Rattle.machine.specs.Lines.{with_mode, put, put_mouse}
use Rattle.machine.specs.DataPort.{settled, data_written, send, send_keyboard, latched, cell_written, plain_data}
use Rattle.machine.specs.DataPort.{load_byte, write_data}

-- ---- plain_data, by the pending code
module _ (m : Machine) (v : ℕ) where
  pub data_1 : m.plain.host.pending ≡ 1 → lift (with_mode (v % 0x80)) m ≡ lift (plain_data v) m
  unfolding plain_data
  data_1 key = simp key

  pub data_2 : m.plain.host.pending ≡ 2 → lift (cell_written v) m ≡ lift (plain_data v) m
  unfolding plain_data
  data_2 key = simp key

  pub data_4 : m.plain.host.pending ≡ 4 → lift (latched v) m ≡ lift (plain_data v) m
  unfolding plain_data
  data_4 key = simp key

  pub data_5 : m.plain.host.pending ≡ 5 → lift (put v) m ≡ lift (plain_data v) m
  unfolding plain_data
  data_5 key = simp key

  pub data_6 : m.plain.host.pending ≡ 6 → lift (put_mouse v) m ≡ lift (plain_data v) m
  unfolding plain_data
  data_6 key = simp key

  pub data_7 : m.plain.host.pending ≡ 7 → lift (send 2 v) m ≡ lift (plain_data v) m
  unfolding plain_data
  data_7 key = simp key

  pub data_other : (m.plain.host.pending ≡ 1 → ⊥) → (m.plain.host.pending ≡ 2 → ⊥) → (m.plain.host.pending ≡ 4 → ⊥) →
      (m.plain.host.pending ≡ 5 → ⊥) → (m.plain.host.pending ≡ 6 → ⊥) → (m.plain.host.pending ≡ 7 → ⊥) →
      lift (send_keyboard v) m ≡ lift (plain_data v) m
  unfolding plain_data
  data_other n1 n2 n4 n5 n6 n7 =
      simp (ne_eqb _ _ n1, ne_eqb _ _ n2, ne_eqb _ _ n4, ne_eqb _ _ n5, ne_eqb _ _ n6, ne_eqb _ _ n7)

-- ---- load_byte
pub load_byte_end : (m : Machine) (v : ℕ) → v ≡ 0 → lift settled m ≡ load_byte v m
unfolding load_byte
load_byte_end m v h = simp (eq-eqb _ _ h)

-- ---- write_data
pub write_data-load : (m : Machine) (v : ℕ) → m.plain.host.pending ≡ 3 → load_byte v (lift data_written m) ≡ write_data v m
unfolding write_data
write_data-load m v h = simp (eq-eqb _ _ h)

pub write_data-plain : (m : Machine) (v : ℕ) → (m.plain.host.pending ≡ 3 → ⊥) →
    lift settled (lift (plain_data v) (lift data_written m)) ≡ write_data v m
unfolding write_data
write_data-plain m v h = simp (ne_eqb _ _ h)
