-- Numbers that are bytes or half bytes: the lines of a port, the mode byte with a bit changed, the cells of a RAM.
-- Assumes nothing.
use Prim.Native.Nat.{ℕ, zero, suc, ◌+◌, ◌-◌, ◌*◌, ◌%◌, ◌^◌, ◌<◌, ◌≤◌}
use mathlib.Core.Path.{◌≡◌, refl, ap}
use mathlib.Core.Bool.{Bool, true, false, cond, not, ◌&&◌}
use mathlib.Core.List.{List, [], ◌∷◌}
use native.Mathlib.Omega.{arith}
use lib.ListN.{get_or, set, replicate}
use lib.Dec.{eqb}
use lib.Bits.{bit_and, bit_or, and_le_l, or_lt}
use Rattle.translation.specs.Bits.{bit, has, weight, set_bit, clear_bit, nibble}
use Rattle.machine.specs.State.{Public}
use Rattle.machine.specs.Lines.{at_mode, second_set, input_port, mouse_off, keyboard_off, keyboard_interrupt}
use Rattle.machine.specs.Lines.{keyboard_request, mouse_request, output_port}
use Rattle.machine.specs.Commands.{polled, test_inputs}
use Rattle.machine.proofs.Laws.Cond.{cond_both}

-- ---- weight, nibble
pub weight_le : (w : ℕ) (b : Bool) → weight w b ≤ w
weight_le w true = omega arith
weight_le w false = omega arith

pub nibble_below : (a b c d : Bool) → nibble a b c d < 16
unfolding nibble
nibble_below a b c d = omega (arith, weight_le 1 a, weight_le 2 b, weight_le 4 c, weight_le 8 d)

nibbles_below : (low high : ℕ) → low < 16 → high < 16 → low + 16 * high < 256
nibbles_below low high a b = omega arith

-- ---- output_port, test_inputs
pub output_port_below : (p : Public) → output_port p < 256
unfolding output_port
output_port_below p =
    let q = p.ports in
    cond_both (λ n. n < 256) (at_mode p)
    (nibbles_below _ _ (nibble_below q.p20 q.p21 q.p22 q.p23) (nibble_below (p.output.full && keyboard_interrupt p) q.p25 (keyboard_off p) true))
    (nibbles_below _ _ (nibble_below q.p20 q.p21 false (mouse_off p)) (nibble_below (keyboard_request p) (mouse_request p) (keyboard_off p) false))

pub test_inputs_below : (p : Public) → test_inputs p < 256
unfolding test_inputs
test_inputs_below p =
    cond_both (λ n. n < 256) (at_mode p)
    (omega (arith, nibble_below true (not (keyboard_off p)) false false))
    (omega (arith, nibble_below (not (keyboard_off p)) (not (mouse_off p)) false false))

-- ---- input_port
pub input_port_below : (p : Public) → p.ports.pins < 256 → input_port p < 256
unfolding input_port
input_port_below p h =
    let pins = p.ports.pins in
    let lines = bit_or p.ports.input_latches 0xC0 in
    cond_both (λ n. n < 256) (second_set p) (omega (arith, and_le_l pins lines)) h

-- ---- clear_bit, set_bit
pub clear_bit_below : (n k m : ℕ) → n < m → clear_bit n k < m
clear_bit_below n k m h = omega arith

pub set_bit_2_below : (n : ℕ) → n < 128 → set_bit n 2 < 128
set_bit_2_below n h = omega arith

pub set_bit_4_below : (n : ℕ) → n < 128 → set_bit n 4 < 128
set_bit_4_below n h = omega arith

pub set_bit_5_below : (n : ℕ) → n < 128 → set_bit n 5 < 128
set_bit_5_below n h = omega arith

-- ---- polled
module _ (n : ℕ) (p : Public) where
  pub polled_below : n < 16 → polled n p < 16
  polled_below h = cond_both (λ x. x < 16) (second_set p) (clear_bit_below n 0 16 h) h

  pub polled_even : second_set p ≡ true → has (polled n p) 0 ≡ false
  polled_even second = simp second (ap (λ (x : ℕ). eqb x 1) even)
    where
      even : bit (clear_bit n 0) 0 ≡ 0
      even = omega arith

-- ---- low_lines_written, input_line_written: six bits
pub low_lines_below : (n c : ℕ) → n < 64 → bit_or (bit_and n 0x30) (c % 16) < 64
low_lines_below n c low = or_lt 6 (bit_and n 0x30) (c % 16) (omega (arith, and_le_l n 0x30)) (omega arith)

pub input_line_below : (n k : ℕ) (on : Bool) → k < 6 → n < 64 → cond on (bit_or n (2 ^ k)) (bit_and n (0xFF - 2 ^ k)) < 64
input_line_below n k on h low =
    cond_both (λ x. x < 64) on (or_lt 6 n (2 ^ k) low (below k h)) (omega (arith, and_le_l n (0xFF - 2 ^ k)))
  where
    below : (k : ℕ) → k < 6 → 2 ^ k < 64
    below zero h = omega arith
    below (suc zero) h = omega arith
    below (suc (suc zero)) h = omega arith
    below (suc (suc (suc zero))) h = omega arith
    below (suc (suc (suc (suc zero)))) h = omega arith
    below (suc (suc (suc (suc (suc zero))))) h = omega arith
    below (suc (suc (suc (suc (suc (suc k)))))) h = absurd (omega arith)

-- ---- get_or
pub get_or_zeros : (n k : ℕ) → get_or {A = ℕ} (replicate n 0) k 0 ≡ 0
get_or_zeros zero k = refl
get_or_zeros (suc n) zero = refl
get_or_zeros (suc n) (suc k) = get_or_zeros n k

pub get_or-set_below : (l : List ℕ) (i v m : ℕ) → v < m → ((k : ℕ) → get_or l k 0 < m) → (k : ℕ) → get_or (set l i v) k 0 < m
get_or-set_below [] i v m new old k = old k
get_or-set_below (x ∷ l) zero v m new old zero = new
get_or-set_below (x ∷ l) zero v m new old (suc k) = old (suc k)
get_or-set_below (x ∷ l) (suc i) v m new old zero = old zero
get_or-set_below (x ∷ l) (suc i) v m new old (suc k) = get_or-set_below l i v m new (λ j. old (suc j)) k
