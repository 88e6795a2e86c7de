-- What is true of frames: when each verdict falls, and that a byte and its frame determine one another.
-- Assumes nothing.
use Prim.Native.Nat.{ℕ, ◌+◌, ◌-◌, ◌*◌, ◌/◌, ◌%◌, ◌<◌, ◌≤◌}
use mathlib.Core.Path.{◌≡◌, refl, ap, ◌∙◌, sym}
use mathlib.Core.Logic.{◌⊎◌, inl, inr, ⊎_elim}
use mathlib.Core.Bool.{Bool}
use native.Mathlib.Nat.{div-div-eq-div-mul}
use native.Mathlib.Omega.{arith}
use lib.Dec.{eqb}
use borrow.Author.Tests.{lt-ltb, le-ltb, eqb-true, eqb-false, ltb-true, ltb-false, not-true, not-false}
use Rattle.translation.specs.Bits.{bit}
use Rattle.translation.specs.Frames.{sound, parity, broken, noise, start_wrong, stop_wrong, too_long, byte_of, ones, check, frame}
use Rattle.translation.proofs.Tests.{split, every, every_below}

-- ones

-- The bits above the byte leave its bits as they are: tested at each byte with either parity bit.
counted : ℕ → ℕ → Bool
counted b p = eqb (ones (2 * b + 512 * p + 1024)) (ones (2 * b) + p)

pub ones-framed : (b p : ℕ) → b < 256 → p < 2 → ones (2 * b + 512 * p + 1024) ≡ ones (2 * b) + p
unfolding counted ones
ones-framed b p byte flag =
    eqb-true _ _
    (every_below (counted b) 2 (every_below (λ b. every (counted b) 2) 256 refl b byte) p flag)

-- check

-- eleven bits, of which the first is 0 and the last 1
abbrev pub Framed : ℕ → Type 0
Framed f = (bit f 0 ≡ 0) × (bit f 10 ≡ 1) × (f ≤ 2047)

-- eleven bits, of which the first is 1
abbrev pub FalseStart : ℕ → Type 0
FalseStart f = (bit f 0 ≡ 1) × (f ≤ 2047)

-- more than eleven bits, or the first and the last of them are 0
abbrev pub Unstopped : ℕ → Type 0
Unstopped f = (2047 < f) ⊎ ((bit f 0 ≡ 0) × (bit f 10 ≡ 0))

pub check_odd : (f : ℕ) → Framed f → ones f % 2 ≡ 1 → check f ≡ sound (byte_of f)
unfolding check
check_odd f (start, stop, short) odd = simp (start, stop, le-ltb _ _ short, odd)

pub check_even : (f : ℕ) → Framed f → ones f % 2 ≡ 0 → check f ≡ parity
unfolding check
check_even f (start, stop, short) even = simp (start, stop, le-ltb _ _ short, even)

pub check-noise : (f : ℕ) → FalseStart f → check f ≡ noise
unfolding check
check-noise f (start, short) = simp (start, le-ltb _ _ short)

pub check-broken : (f : ℕ) → Unstopped f → check f ≡ broken
check-broken f (inl long) = unfold check in simp (lt-ltb _ _ long)
check-broken f (inr (start, stop)) = unfold check in split (too_long f) (λ l. simp l) (λ l. simp (l, start, stop))

-- Each number has one verdict, by what its bits are: the four descriptions exclude one another.
pub check-one : (f : ℕ) →
    ((check f ≡ sound (byte_of f)) × Framed f × (ones f % 2 ≡ 1))
    ⊎ ((check f ≡ parity) × Framed f × (ones f % 2 ≡ 0))
    ⊎ ((check f ≡ broken) × Unstopped f)
    ⊎ ((check f ≡ noise) × FalseStart f)
check-one f =
    split (too_long f) (λ l. let u : Unstopped f = inl (ltb-true 2047 f l) in inr (inr (inl (check-broken f u, u)))) λ l.
    split (start_wrong f)
    (λ s. let n : FalseStart f = (eqb-true (bit f 0) 1 s, ltb-false 2047 f l) in inr (inr (inr (check-noise f n, n)))) λ s.
    let start : bit f 0 ≡ 0 = omega (arith, eqb-false (bit f 0) 1 s) in
    split (stop_wrong f)
    (λ t.
    let u : Unstopped f = inr (start, omega (arith, eqb-false (bit f 10) 1 (not-true _ t))) in
    inr (inr (inl (check-broken f u, u)))) λ t.
    let framed : Framed f = (start, eqb-true (bit f 10) 1 (not-false _ t), ltb-false 2047 f l) in
    split (eqb (ones f % 2) 1)
    (λ o. let odd : ones f % 2 ≡ 1 = eqb-true _ _ o in inl (check_odd f framed odd, framed, odd))
    (λ o. let even : ones f % 2 ≡ 0 = omega (arith, eqb-false (ones f % 2) 1 o) in inr (inl (check_even f framed even, framed, even)))

-- frame

pub frame_below : (b : ℕ) → b < 256 → frame b < 2048
unfolding frame
frame_below b byte = omega arith

pub frame-framed : (b : ℕ) → b < 256 → Framed (frame b)
unfolding frame
frame-framed b byte = (omega arith, omega arith, omega arith)

pub byte_of-frame : (b : ℕ) → b < 256 → byte_of (frame b) ≡ b
unfolding frame
byte_of-frame b byte = omega arith

pub ones-frame : (b : ℕ) → b < 256 → ones (frame b) % 2 ≡ 1
unfolding frame
ones-frame b byte = omega (arith, ones-framed b (1 - ones (2 * b) % 2) byte (omega arith))

pub check-frame : (b : ℕ) → b < 256 → check (frame b) ≡ sound b
check-frame b byte = check_odd _ (frame-framed b byte) (ones-frame b byte) ∙ ap sound (byte_of-frame b byte)

odd_flag : (n p : ℕ) → p < 2 → (n + p) % 2 ≡ 1 → p ≡ 1 - n % 2
odd_flag n p flag odd = omega arith

-- a frame is its byte, its parity bit and its stop bit
parts : (f : ℕ) → Framed f → f ≡ 2 * byte_of f + 512 * bit f 9 + 1024
parts f framed =
    let even : f ≡ 2 * (f / 2) = omega arith in
    let halved : f / 2 / 256 ≡ f / 512 = div-div-eq-div-mul f 2 256 in
    let top : f / 512 / 2 ≡ 1 = div-div-eq-div-mul f 512 2 ∙ omega arith in
    omega arith

pub frame-byte_of : (f : ℕ) → Framed f → ones f % 2 ≡ 1 → frame (byte_of f) ≡ f
unfolding frame
frame-byte_of f framed odd =
    let count : ones f ≡ ones (2 * byte_of f) + bit f 9 = ap ones (parts f framed) ∙ ones-framed (byte_of f) (bit f 9) (omega arith) (omega arith) in
    let flag : bit f 9 ≡ 1 - ones (2 * byte_of f) % 2 = odd_flag _ _ (omega arith) (rw count at odd) in
    sym (parts f framed ∙ ap (λ (p : ℕ). 2 * byte_of f + 512 * p + 1024) flag)

-- a frame that is judged sound is the frame of its byte
pub check_sound : (f b : ℕ) → check f ≡ sound b → (b < 256) × (f ≡ frame b)
check_sound f b e =
    ⊎_elim
    (λ s.
    let same : byte_of f ≡ b = cc s.0 in
    (omega arith, sym (frame-byte_of f s.1 s.2) ∙ ap frame same))
    (⊎_elim (λ p. let z : ◌≡◌ {A = ℕ} 0 1 = cc p.0 in omega arith)
    (⊎_elim (λ b. let z : ◌≡◌ {A = ℕ} 0 1 = cc b.0 in omega arith) (λ n. let z : ◌≡◌ {A = ℕ} 0 1 = cc n.0 in omega arith)))
    (check-one f)
