-- Bits of a byte: what `has` reads of a byte that `nibble` made of lines, and the byte that `nibble` makes of the bits that `has` reads.
-- Assumes nothing.
use Prim.Native.Nat.{ℕ, ◌+◌, ◌*◌, ◌/◌, ◌%◌, ◌^◌, ◌≤◌, ◌<◌}
use mathlib.Core.Path.{◌≡◌, refl, ap, sym, ◌∙◌}
use mathlib.Core.Bool.{Bool, true, false}
use native.Mathlib.Omega.{arith}
use lib.Dec.{eqb}
use borrow.Author.Tests.{eqb-true, eqb-false}
use Rattle.translation.specs.Bits.{has, weight, nibble}
use Rattle.machine.proofs.Laws.Bounds.{weight_le}
use Rattle.translation.proofs.Tests.{split}

-- ---- weight
pub weight-eqb : (b : Bool) → eqb (weight 1 b) 1 ≡ b
weight-eqb true = refl
weight-eqb false = refl

pub weight_scaled : (w : ℕ) (b : Bool) → weight w b ≡ w * weight 1 b
weight_scaled w true = omega arith
weight_scaled w false = omega arith

pub weight_test : (x : ℕ) → x < 2 → weight 1 (eqb x 1) ≡ x
weight_test x h = split (eqb x 1) (λ e. ap (weight 1) e ∙ sym (eqb-true x 1 e)) (λ e. ap (weight 1) e ∙ none e)
  where
    none : eqb x 1 ≡ false → 0 ≡ x
    none e = omega (arith, eqb-false x 1 e)

-- ---- nibble
pub nibble_weights : (a b c d : Bool) → nibble a b c d ≡ weight 1 a + 2 * weight 1 b + 4 * weight 1 c + 8 * weight 1 d
unfolding nibble
nibble_weights a b c d = omega (arith, weight_scaled 2 b, weight_scaled 4 c, weight_scaled 8 d)

pub eqb-nibble : (b : Bool) → eqb (nibble b false false false) 1 ≡ b
unfolding nibble
eqb-nibble true = refl
eqb-nibble false = refl

-- ---- has
-- a line that stands at bit k
has-line : (n k : ℕ) (b : Bool) → n / 2 ^ k % 2 ≡ weight 1 b → has n k ≡ b
has-line n k b e = ap (λ (x : ℕ). eqb x 1) e ∙ weight-eqb b

weight-has : (n k : ℕ) → weight 1 (has n k) ≡ n / 2 ^ k % 2
weight-has n k = weight_test (n / 2 ^ k % 2) (omega arith)

-- ---- two nibbles
module _ (a b c d e f g h : Bool) where
  abbrev pub lines : ℕ
  lines = nibble a b c d + 16 * nibble e f g h

  weights : lines ≡
      weight 1 a + 2 * weight 1 b + 4 * weight 1 c + 8 * weight 1 d
      + 16 * (weight 1 e + 2 * weight 1 f + 4 * weight 1 g + 8 * weight 1 h)
  weights = omega (arith, nibble_weights a b c d, nibble_weights e f g h)

  units : (weight 1 a ≤ 1) × (weight 1 b ≤ 1) × (weight 1 c ≤ 1) × (weight 1 d ≤ 1)
      × (weight 1 e ≤ 1) × (weight 1 f ≤ 1) × (weight 1 g ≤ 1) × (weight 1 h ≤ 1)
  units = (weight_le 1 a, weight_le 1 b, weight_le 1 c, weight_le 1 d, weight_le 1 e, weight_le 1 f, weight_le 1 g, weight_le 1 h)

  pub lines_0 : has lines 0 ≡ a
  lines_0 = has-line lines 0 a (omega (arith, weights, units))

  pub lines_1 : has lines 1 ≡ b
  lines_1 = has-line lines 1 b (omega (arith, weights, units))

  pub lines_2 : has lines 2 ≡ c
  lines_2 = has-line lines 2 c (omega (arith, weights, units))

  pub lines_3 : has lines 3 ≡ d
  lines_3 = has-line lines 3 d (omega (arith, weights, units))

  pub lines_4 : has lines 4 ≡ e
  lines_4 = has-line lines 4 e (omega (arith, weights, units))

  pub lines_5 : has lines 5 ≡ f
  lines_5 = has-line lines 5 f (omega (arith, weights, units))

  pub lines_6 : has lines 6 ≡ g
  lines_6 = has-line lines 6 g (omega (arith, weights, units))

  pub lines_below : h ≡ false → lines < 128
  lines_below none = omega (arith, weights, ap (weight 1) none, units)

-- a number of seven bits, halved until nothing is left
halved : (x y₁ y₂ y₃ y₄ y₅ y₆ b₀ b₁ b₂ b₃ b₄ b₅ b₆ : ℕ) →
    x ≡ b₀ + 2 * y₁ →
    y₁ ≡ b₁ + 2 * y₂ →
    y₂ ≡ b₂ + 2 * y₃ →
    y₃ ≡ b₃ + 2 * y₄ →
    y₄ ≡ b₄ + 2 * y₅ →
    y₅ ≡ b₅ + 2 * y₆ →
    y₆ ≡ b₆ →
    b₀ + 2 * b₁ + 4 * b₂ + 8 * b₃ + 16 * (b₄ + 2 * b₅ + 4 * b₆ + 8 * 0) ≡ x
halved x y₁ y₂ y₃ y₄ y₅ y₆ b₀ b₁ b₂ b₃ b₄ b₅ b₆ e₀ e₁ e₂ e₃ e₄ e₅ e₆ = omega arith

-- the lines of a byte make the byte
pub flags-byte : (x : ℕ) → x < 128 →
    nibble (has x 0) (has x 1) (has x 2) (has x 3) + 16 * nibble (has x 4) (has x 5) (has x 6) false ≡ x
flags-byte x h =
    weights (has x 0) (has x 1) (has x 2) (has x 3) (has x 4) (has x 5) (has x 6) false
    ∙ simp (weight-has x)
    (halved x (x / 2) (x / 4) (x / 8) (x / 16) (x / 32) (x / 64)
    (x / 1 % 2) (x / 2 % 2) (x / 4 % 2) (x / 8 % 2) (x / 16 % 2) (x / 32 % 2) (x / 64 % 2)
    (omega arith) (omega arith) (omega arith) (omega arith) (omega arith) (omega arith) (omega arith))

-- ---- latches
pub latches-byte : (x : ℕ) → x < 4 → nibble (has x 0) (has x 1) false false ≡ x
latches-byte x h = omega (arith, nibble_weights (has x 0) (has x 1) false false, weight-has x 0, weight-has x 1)

pub latches_below : (a b : Bool) → nibble a b false false < 4
latches_below a b = omega (arith, nibble_weights a b false false, weight_le 1 a, weight_le 1 b)

-- ---- overlay present
pub overlay_below : (b : Bool) → nibble b false false false ≤ 1
overlay_below b = omega (arith, nibble_weights b false false false, weight_le 1 b)

pub overlay-byte : (x : ℕ) → x ≤ 1 → nibble (eqb x 1) false false false ≡ x
overlay-byte x h = omega (arith, nibble_weights (eqb x 1) false false false, weight_test x (omega arith))

-- ---- the lines of a nibble
module _ (a b c d : Bool) where
  ones : (weight 1 a ≤ 1) × (weight 1 b ≤ 1) × (weight 1 c ≤ 1) × (weight 1 d ≤ 1)
  ones = (weight_le 1 a, weight_le 1 b, weight_le 1 c, weight_le 1 d)

  pub nibble_0 : has (nibble a b c d) 0 ≡ a
  nibble_0 = has-line (nibble a b c d) 0 a (omega (arith, nibble_weights a b c d, ones))

  pub nibble_1 : has (nibble a b c d) 1 ≡ b
  nibble_1 = has-line (nibble a b c d) 1 b (omega (arith, nibble_weights a b c d, ones))

  pub nibble_2 : has (nibble a b c d) 2 ≡ c
  nibble_2 = has-line (nibble a b c d) 2 c (omega (arith, nibble_weights a b c d, ones))

  pub nibble_3 : has (nibble a b c d) 3 ≡ d
  nibble_3 = has-line (nibble a b c d) 3 d (omega (arith, nibble_weights a b c d, ones))

  -- the lines of a nibble make the nibble
  pub nibble-again : let n = nibble a b c d in nibble (has n 0) (has n 1) (has n 2) (has n 3) ≡ n
  nibble-again = λ i. nibble (nibble_0 i) (nibble_1 i) (nibble_2 i) (nibble_3 i)

-- and those of a number below 16 the number
pub nibble-byte : (x : ℕ) → x < 16 → nibble (has x 0) (has x 1) (has x 2) (has x 3) ≡ x
nibble-byte x h = omega (arith, flags-byte x (omega arith))

pub high_latches-again : (a b d : Bool) → let n = nibble a b false d in nibble (has n 0) (has n 1) false (has n 3) ≡ n
high_latches-again a b d = λ i. nibble (nibble_0 a b false d i) (nibble_1 a b false d i) false (nibble_3 a b false d i)
