-- Laws of the definitions in specs/Lines. Assumes nothing.
use mathlib.Core.Path.{◌≡◌, refl, ap, sym, ◌∙◌}
use mathlib.Core.Bool.{Bool, true, false, not, ◌&&◌, ◌||◌, or-true, and-true}
use Prim.Native.Nat.{ℕ, zero, suc, ◌+◌, ◌*◌, ◌/◌, ◌%◌, ◌^◌, ◌≤◌, ◌<◌}
use native.Mathlib.Omega.{arith}
use lib.Bits.{bit_and, bit_or, and_shr, or_shr, and_mod, or_mod}
use lib.Dec.{eqb, leb}
use borrow.Author.Tests.{eq-eqb, ne_eqb}
use Rattle.translation.specs.Bits.{bit, has, weight, nibble}
use Rattle.translation.proofs.Tests.{split, equal_below}
use Rattle.machine.specs.State.{Public, Machine, lift}
use Rattle.machine.specs.Lines.{at_mode, second_set, cell_of, override, input_port, key_switch, inhibited, mouse_inhibited}
use Rattle.machine.specs.Lines.{status_bit5, overlay_shown, high_with, high_nibble, status, system, input_full}
use Rattle.machine.specs.Lines.{mouse_interrupt, keyboard_interrupt}
use Rattle.machine.specs.Lines.{mouse_request, keyboard_request, mouse_off, keyboard_off, ps2_port, at_port, output_port, put, put_cell}
use Rattle.machine.proofs.Laws.Bits.{weight-eqb}

-- ---- nibble
upper_nibble : (a b c d : Bool) → weight 16 a + weight 32 b + weight 64 c + weight 128 d ≡ 16 * nibble a b c d
unfolding nibble
upper_nibble false false false false = refl
upper_nibble false false false true = refl
upper_nibble false false true false = refl
upper_nibble false false true true = refl
upper_nibble false true false false = refl
upper_nibble false true false true = refl
upper_nibble false true true false = refl
upper_nibble false true true true = refl
upper_nibble true false false false = refl
upper_nibble true false false true = refl
upper_nibble true false true false = refl
upper_nibble true false true true = refl
upper_nibble true true false false = refl
upper_nibble true true false true = refl
upper_nibble true true true false = refl
upper_nibble true true true true = refl

pub upper_sum : (a b c d : Bool) {w x y z : ℕ} → w ≡ weight 16 a → x ≡ weight 32 b → y ≡ weight 64 c → z ≡ weight 128 d →
    w + x + y + z ≡ 16 * nibble a b c d
upper_sum a b c d is_w is_x is_y is_z = simp (is_w, is_x, is_y, is_z) (upper_nibble a b c d)

-- the interrupt requests, of which one at most stands, and the keyboard's line beside them
keyboard_weight : (b : Bool) → weight 16 b ≡ 16 * nibble b false false false
unfolding nibble
keyboard_weight true = refl
keyboard_weight false = refl

mouse-weight : (b : Bool) → weight 32 b ≡ 16 * nibble false b false false
unfolding nibble
mouse-weight true = refl
mouse-weight false = refl

off_weight : (a b k : Bool) → 16 * nibble a b false false + weight 64 k ≡ 16 * nibble a b k false
unfolding nibble
off_weight false false false = refl
off_weight false false true = refl
off_weight false true false = refl
off_weight false true true = refl
off_weight true false false = refl
off_weight true false true = refl
off_weight true true false = refl
off_weight true true true = refl

port-weight : (n : ℕ) (a b k : Bool) → n + 16 * nibble a b false false + weight 64 k ≡ n + 16 * nibble a b k false
port-weight n a b k = omega (arith, off_weight a b k)

-- ---- input_port
-- what holds of 0 and of 1 holds of a bit
bit-holds : (P : ℕ → Type 0) (x : ℕ) → x < 2 → P 0 → P 1 → P x
bit-holds P zero h none one = none
bit-holds P (suc zero) h none one = one
bit-holds P (suc (suc x)) h none one = absurd (omega arith)

has_and : (a b k : ℕ) → has (bit_and a b) k ≡ (has a k && has b k)
has_and a b k =
    ap (λ (x : ℕ). eqb (x % 2) 1) (and_shr a b k) ∙ ap (λ (x : ℕ). eqb x 1) (and_mod (a / 2 ^ k) (b / 2 ^ k) 1)
    ∙ bit-holds (λ x. eqb (bit_and x (bit b k)) 1 ≡ (eqb x 1 && has b k)) (bit a k) (omega arith)
    (bit-holds (λ y. eqb (bit_and 0 y) 1 ≡ false) (bit b k) (omega arith) refl refl)
    (bit-holds (λ y. eqb (bit_and 1 y) 1 ≡ eqb y 1) (bit b k) (omega arith) refl refl)

has_or : (a b k : ℕ) → has (bit_or a b) k ≡ (has a k || has b k)
has_or a b k =
    ap (λ (x : ℕ). eqb (x % 2) 1) (or_shr a b k) ∙ ap (λ (x : ℕ). eqb x 1) (or_mod (a / 2 ^ k) (b / 2 ^ k) 1)
    ∙ bit-holds (λ x. eqb (bit_or x (bit b k)) 1 ≡ (eqb x 1 || has b k)) (bit a k) (omega arith)
    (bit-holds (λ y. eqb (bit_or 0 y) 1 ≡ eqb y 1) (bit b k) (omega arith) refl refl)
    (bit-holds (λ y. eqb (bit_or 1 y) 1 ≡ true) (bit b k) (omega arith) refl refl)

module _ (p : Public) where
  -- With the second command set a line reads 1 exactly if its pin and, below P16, its latch are 1.
  pub input_port-line : (k : ℕ) → k < 8 → second_set p ≡ true → has (input_port p) k ≡ (has p.ports.pins k && (has p.ports.input_latches k || leb 6 k))
  unfolding input_port
  input_port-line k inside second =
      let free : has 0xC0 k ≡ leb 6 k = ap (λ (x : ℕ). eqb x 1) (equal_below (bit 0xC0) (λ k. weight 1 (leb 6 k)) 8 refl k inside) ∙ weight-eqb (leb 6 k) in
      simp second (has_and p.ports.pins (bit_or p.ports.input_latches 0xC0) k ∙ simp (has_or p.ports.input_latches 0xC0 k, free))

  -- P17 has no latch
  pub key_switch_pin : has p.ports.pins 7 ≡ key_switch p
  key_switch_pin =
      split (second_set p)
      (λ second. sym (input_port-line 7 (omega arith) second ∙ simp (or-true, and-true)))
      (λ first. unfold input_port in simp first)

  module _ {switch : Bool} (is_switch : switch ≡ key_switch p) where
    pub inhibited-switch : (not switch && not (override p)) ≡ inhibited p
    inhibited-switch = ap (λ (t : Bool). not t && not (override p)) is_switch

    pub mouse_inhibited-switch : (p.settings.mouse_lock && not switch) ≡ mouse_inhibited p
    mouse_inhibited-switch = ap (λ (t : Bool). p.settings.mouse_lock && not t) is_switch

  module _ {second : Bool} (is_second : second ≡ second_set p) where
    pub input_port-second : second ≡ true → bit_and p.ports.pins (bit_or p.ports.input_latches 0xC0) ≡ input_port p
    unfolding input_port
    input_port-second h = simp (sym is_second ∙ h)

    pub input_port-first : second ≡ false → p.ports.pins ≡ input_port p
    unfolding input_port
    input_port-first h = simp (sym is_second ∙ h)

    -- ---- overlay_shown
    pub overlay_shown-second : {r : ℕ} {switch : Bool} → second ≡ true → switch ≡ key_switch p →
        r ≡ 16 * nibble switch (has p.host.nibble 1) (has p.host.nibble 2) (has p.host.nibble 3) →
        r ≡ 16 * overlay_shown p
    unfolding overlay_shown
    overlay_shown-second h is_switch made = made ∙ simp (sym is_second ∙ h, is_switch)

    pub overlay_shown-first : second ≡ false → 16 * (p.host.nibble % 16) ≡ 16 * overlay_shown p
    unfolding overlay_shown
    overlay_shown-first h = simp (sym is_second ∙ h)

-- ---- status_bit5, high_nibble
module _ (p : Public) {at' : Bool} (is_at : at' ≡ at_mode p) where
  pub status_bit5-at : {r : Bool} → at' ≡ true → r ≡ p.errors.ttim → r ≡ status_bit5 p
  status_bit5-at h made = made ∙ simp (sym is_at ∙ h)

  pub status_bit5-ps2 : {full mouse : Bool} → at' ≡ false → full ≡ p.output.full → mouse ≡ p.output.mouse → (full && mouse) ≡ status_bit5 p
  status_bit5-ps2 h is_full is_mouse = simp (sym is_at ∙ h, is_full, is_mouse)

pub high_with-overlay : (p : Public) (five : Bool) {r : ℕ} → p.host.overlay ≡ true → r ≡ 16 * overlay_shown p → r ≡ 16 * high_with five p
high_with-overlay p five some made = made ∙ simp some

pub high_with-lines : (p : Public) (five : Bool) {r : ℕ} {switch : Bool} → p.host.overlay ≡ false →
    r ≡ 16 * nibble switch five p.errors.terr p.errors.perr →
    switch ≡ key_switch p →
    r ≡ 16 * high_with five p
high_with-lines p five none made is_switch = made ∙ simp (none, is_switch)

-- ---- status
-- from its low bits without IBF and its high ones
nibble_second : (a b c d : Bool) → nibble a false c d + weight 2 b ≡ nibble a b c d
unfolding nibble
nibble_second a b c d = omega arith

nibble-first : (b c d : Bool) → nibble false b c d + 1 ≡ nibble true b c d
unfolding nibble
nibble-first b c d = omega arith

pub nibble_most : (c d : Bool) → nibble false false c d ≤ 12
unfolding nibble
nibble_most false false = omega arith
nibble_most false true = omega arith
nibble_most true false = omega arith
nibble_most true true = omega arith

status-sum : (p : Public) → status p ≡ nibble p.output.full (input_full p) (system p) p.host.command + 16 * high_with (status_bit5 p) p
unfolding status high_nibble
status-sum p = refl

status_parts : (p : Public) {low high : ℕ} {full five : Bool} → p.output.full ≡ full → status_bit5 p ≡ five →
    low ≡ nibble full false (system p) p.host.command →
    high ≡ 16 * high_with five p →
    low + high + weight 2 (input_full p) ≡ status p
status_parts p {low} {high} {full} {five} is_full is_five is_low is_high =
    let rest = nibble_second full (input_full p) (system p) p.host.command in
    let sum : low + high + weight 2 (input_full p) ≡ nibble full (input_full p) (system p) p.host.command + high = omega (arith, is_low, rest) in
    sum ∙ ap (λ (n : ℕ). nibble full (input_full p) (system p) p.host.command + n) is_high
    ∙ (λ i. nibble (sym is_full i) (input_full p) (system p) p.host.command + 16 * high_with (sym is_five i) p) ∙ sym (status-sum p)

-- ---- the interrupt requests
module _ (p : Public) {r : ℕ} {full mouse : Bool} (is_full : full ≡ p.output.full) (is_mouse : mouse ≡ p.output.mouse) where
  pub mouse_requested : full ≡ true → mouse ≡ true → r ≡ weight 32 (mouse_interrupt p) →
      r ≡ 16 * nibble (keyboard_request p) (mouse_request p) false false
  mouse_requested stands from made = made ∙ mouse-weight (mouse_interrupt p) ∙ simp (sym is_full ∙ stands, sym is_mouse ∙ from)

  pub keyboard_requested : full ≡ true → mouse ≡ false → r ≡ weight 16 (keyboard_interrupt p) →
      r ≡ 16 * nibble (keyboard_request p) (mouse_request p) false false
  keyboard_requested stands from made = made ∙ keyboard_weight (keyboard_interrupt p) ∙ simp (sym is_full ∙ stands, sym is_mouse ∙ from)

no_request : (p : Public) → p.output.full ≡ false → 0 ≡ 16 * nibble (keyboard_request p) (mouse_request p) false false
unfolding nibble
no_request p empty = simp empty

-- ---- ps2_port, at_port, output_port
pub ps2_port-sum : (p : Public) {low requests off : ℕ} {mouse keyboard : Bool} → mouse ≡ mouse_off p → keyboard ≡ keyboard_off p →
    low ≡ nibble p.ports.p20 p.ports.p21 false mouse →
    requests ≡ 16 * nibble (keyboard_request p) (mouse_request p) false false →
    off ≡ weight 64 keyboard →
    low + requests + off ≡ ps2_port p
ps2_port-sum p is_mouse is_keyboard is_low is_requests is_off =
    simp (is_low, is_requests, is_off, is_mouse, is_keyboard)
    (port-weight (nibble p.ports.p20 p.ports.p21 false (mouse_off p)) (keyboard_request p) (mouse_request p) (keyboard_off p))

pub at_port-sum : (p : Public) {low high : ℕ} {full off : Bool} → full ≡ p.output.full → off ≡ keyboard_off p →
    low ≡ nibble p.ports.p20 p.ports.p21 p.ports.p22 p.ports.p23 →
    high ≡ 16 * nibble (full && keyboard_interrupt p) p.ports.p25 off true →
    low + high ≡ at_port p
at_port-sum p is_full is_off is_low is_high = simp (is_low, is_high, is_full, is_off)

module _ (p : Public) {r : ℕ} {at' : Bool} (is_at : at' ≡ at_mode p) where
  pub output_port-at : at' ≡ true → r ≡ at_port p → r ≡ output_port p
  unfolding output_port
  output_port-at h made = made ∙ simp (sym is_at ∙ h)

  pub output_port-ps2 : at' ≡ false → r ≡ ps2_port p → r ≡ output_port p
  unfolding output_port
  output_port-ps2 h made = made ∙ simp (sym is_at ∙ h)

-- ---- status and output_port in PS/2 mode, by what the output buffer holds
module _ (p : Public) {low lines off : ℕ} {mouse keyboard : Bool} (is_mouse : mouse ≡ mouse_off p) (is_keyboard : keyboard ≡ keyboard_off p)
    (is_low : low ≡ nibble false false (system p) p.host.command)
    (is_lines : lines ≡ nibble p.ports.p20 p.ports.p21 false mouse)
    (is_off : off ≡ weight 64 keyboard) where
  port-sum : {r : ℕ} → r ≡ 16 * nibble (keyboard_request p) (mouse_request p) false false → at_mode p ≡ false → lines + off + r ≡ output_port p
  port-sum {r} is_requests ps2 =
      let turned : lines + off + r ≡ lines + r + off = omega arith in
      output_port-ps2 p refl ps2 (turned ∙ ps2_port-sum p is_mouse is_keyboard is_lines is_requests is_off)

  pub shown-empty : {full : Bool} {high : ℕ} → full ≡ p.output.full → full ≡ false → high ≡ 16 * high_with false p → at_mode p ≡ false →
      (low + high + weight 2 (input_full p) ≡ status p) × (lines + off ≡ output_port p)
  shown-empty {full} is_full none is_high ps2 =
      let empty : p.output.full ≡ false = sym is_full ∙ none in
      let nothing : lines + off ≡ lines + off + 0 = omega arith in
      (status_parts p empty (simp (ps2, empty)) is_low is_high, nothing ∙ port-sum (no_request p empty) ps2)

  byte_low : low + 1 ≡ nibble true false (system p) p.host.command
  byte_low = ap (λ (n : ℕ). n + 1) is_low ∙ nibble-first false (system p) p.host.command

  module _ {full from : Bool} {high r : ℕ} (is_full : full ≡ p.output.full) (stands : full ≡ true) (is_from : from ≡ p.output.mouse) where
    pub shown-mouse : from ≡ true → high ≡ 16 * high_with true p → r ≡ weight 32 (mouse_interrupt p) → at_mode p ≡ false →
        (low + 1 + high + weight 2 (input_full p) ≡ status p) × (lines + off + r ≡ output_port p)
    shown-mouse mouses is_high made ps2 = (
      status_parts p (sym is_full ∙ stands) (simp (ps2, sym is_full ∙ stands, sym is_from ∙ mouses)) byte_low is_high,
      port-sum (mouse_requested p is_full is_from stands mouses made) ps2,
    )

    pub shown-keyboard : from ≡ false → high ≡ 16 * high_with false p → r ≡ weight 16 (keyboard_interrupt p) → at_mode p ≡ false →
        (low + 1 + high + weight 2 (input_full p) ≡ status p) × (lines + off + r ≡ output_port p)
    shown-keyboard keyboards is_high made ps2 = (
      status_parts p (sym is_full ∙ stands) (simp (ps2, sym is_full ∙ stands, sym is_from ∙ keyboards)) byte_low is_high,
      port-sum (keyboard_requested p is_full is_from stands keyboards made) ps2,
    )

-- ---- put_cell
module _ (m : Machine) (k : ℕ) {b : ℕ} (read : b ≡ cell_of m.plain k) where
  pub put_cell_zero : b ≡ 0 → m ≡ lift (put_cell k) m
  unfolding put_cell
  put_cell_zero z = simp (eq-eqb (cell_of m.plain k) 0 (sym read ∙ z))

  pub put_cell-byte : (b ≡ 0 → ⊥) → lift (put b) m ≡ lift (put_cell k) m
  unfolding put_cell
  put_cell-byte z = simp (ne_eqb (cell_of m.plain k) 0 (λ h. z (read ∙ h)), read)
