-- What the program's stores do to the machine that its bytes stand for. Assumes nothing.
use mathlib.Core.Path.{◌≡◌, refl, ◌∙◌, ap, ap₂, sym, subst}
use mathlib.Core.Bool.{Bool, false}
use mathlib.Core.List.{List, [], ◌∷◌, ◌++◌}
use Prim.Native.Nat.{ℕ, zero, suc, ◌+◌, ◌-◌, ◌≤◌, ◌<◌}
use native.Mathlib.Omega.{arith}
use lib.ListN.{replicate, length, take, drop, get_or, set, length-take, length-set}
use borrow.Rule.Slice.PartMut.{put_mid}
use lib.Seq.{take-set-le, take-set-lt, drop-set-lt, drop-set-add, drop-cons, set_out, get_or-set_other}
use Rattle.state.proofs.Laws.Code.{code-append, code_long}
use Rattle.translation.proofs.Lists.{listed, front}
use Rattle.translation.specs.Bits.{has}
use Rattle.machine.specs.Settings.{Settings, settings_of}
use Rattle.machine.specs.State.{Public, Machine, lift, with_output, with_errors, with_host, with_ram}
use Rattle.machine.specs.DataPort.{settled, send, low_latched, high_latched, dropped, appended}
use Rattle.machine.specs.SecondSet.{input_latched, permitted}
use Rattle.machine.specs.Commands.{overlaid}
use Rattle.machine.specs.Devices.{positioned, pinned}
use Rattle.state.specs.Flags.{Flags, flags_of}
use Rattle.state.specs.View.{state_length, at, public, view}

-- ---- stores
-- the first twelve bytes one by one, and the rest
abbrev shown : List ℕ → List ℕ
shown s = listed 0 12 s ++ drop 12 s

pub set-pins : (s : List ℕ) → length s ≡ state_length → (v : ℕ) → view (set s 2 v) ≡ lift (pinned v) (view s)
set-pins s long v = front 12 (λ s. view (set s 2 v) ≡ lift (pinned v) (view s)) s (omega arith) refl

pub set-latches : (s : List ℕ) → length s ≡ state_length → (v : ℕ) → view (set s 3 v) ≡ lift (low_latched (has v 0) (has v 1)) (view s)
set-latches s long v = front 12 (λ s. view (set s 3 v) ≡ lift (low_latched (has v 0) (has v 1)) (view s)) s (omega arith) refl

pub set-high_latches : (s : List ℕ) → length s ≡ state_length → (v : ℕ) → view (set s 62 v) ≡ lift (high_latched (has v 0) (has v 1) (has v 3)) (view s)
set-high_latches s long v = front 65 (λ s. view (set s 62 v) ≡ lift (high_latched (has v 0) (has v 1) (has v 3)) (view s)) s (omega arith) refl

pub set-input_latches : (s : List ℕ) → length s ≡ state_length → (v : ℕ) → view (set s 61 v) ≡ lift (input_latched v) (view s)
set-input_latches s long v = front 65 (λ s. view (set s 61 v) ≡ lift (input_latched v) (view s)) s (omega arith) refl

-- the options, of which bit 3 alone may change
abbrev with_settings : Settings → Public → Public
with_settings x p =
    record {
      output = p.output;
      errors = p.errors;
      host = p.host;
      ports = p.ports;
      sending = p.sending;
      breaks = p.breaks;
      locked = p.locked;
      ram = p.ram;
      settings = x;
    }

pub set-permitted : (s : List ℕ) → length s ≡ state_length → (v : ℕ) → settings_of v (at s 64) (drop 65 s) ≡ (public s).settings →
    view (set s 60 v) ≡ lift (permitted (has v 3)) (view s)
set-permitted s long v =
    front 65
    (λ s. settings_of v (at s 64) (drop 65 s) ≡ (public s).settings → view (set s 60 v) ≡ lift (permitted (has v 3)) (view s))
    s
    (omega arith)
    (λ same. ap (λ (x : Settings). lift (with_settings x) (lift (permitted (has v 3)) (view (listed 0 65 s ++ drop 65 s)))) same)

-- the transmit time-out
abbrev pub timeout_set : Bool → Public → Public
timeout_set b p = with_errors p (record { terr = p.errors.terr; perr = p.errors.perr; ttim = b })

pub set-timeout : (s : List ℕ) → length s ≡ state_length → (v : ℕ) → view (set s 63 v) ≡ lift (timeout_set (has v 0)) (view s)
set-timeout s long v = front 65 (λ s. view (set s 63 v) ≡ lift (timeout_set (has v 0)) (view s)) s (omega arith) refl

pub set-settled : (s : List ℕ) → length s ≡ state_length → view (set (set s 4 0) 5 0) ≡ lift settled (view s)
set-settled s long = front 12 (λ s. view (set (set s 4 0) 5 0) ≡ lift settled (view s)) s (omega arith) refl

pub set-overlay : (s : List ℕ) → length s ≡ state_length → (n : ℕ) → view (set (set s 6 1) 7 n) ≡ lift (overlaid n) (view s)
set-overlay s long n = front 12 (λ s. view (set (set s 6 1) 7 n) ≡ lift (overlaid n) (view s)) s (omega arith) refl

pub set-sending : (s : List ℕ) → length s ≡ state_length → (to v : ℕ) → view (set (set s 8 to) 9 v) ≡ lift (send to v) (view s)
set-sending s long to v = front 12 (λ s. view (set (set s 8 to) 9 v) ≡ lift (send to v) (view s)) s (omega arith) refl

-- n bytes from 12 on, where the lock code stands, are 0
abbrev pub cleared : ℕ → List ℕ → List ℕ
cleared zero s = s
cleared (suc n) s = set (cleared n s) (12 + n) 0

-- sixteen zeros in their place
pub filled-cleared : (s : List ℕ) {ys : List ℕ} → length s ≡ state_length → ys ≡ replicate (length (take 16 (drop 12 s))) 0 → put_mid 12 16 s ys ≡ cleared 16 s
filled-cleared s {ys} long filled =
    let sixteen : length (take 16 (drop 12 s)) ≡ 16 = front 28 (λ s. length (take 16 (drop 12 s)) ≡ 16) s (omega arith) refl in
    ap (put_mid 12 16 s) (filled ∙ ap (λ (n : ℕ). replicate n 0) sixteen) ∙ front 28 (λ s. put_mid 12 16 s (replicate 16 0) ≡ cleared 16 s) s (omega arith) refl

-- one more
pub cleared_next : (s₀ s : List ℕ) (i : ℕ) → 12 ≤ i → s ≡ cleared (i - 12) s₀ → set s i 0 ≡ cleared (i + 1 - 12) s₀
cleared_next s₀ s i low e =
    let here : i ≡ 12 + (i - 12) = omega arith in
    let more : i + 1 - 12 ≡ suc (i - 12) = omega arith in
    ap₂ (λ (t : List ℕ) (j : ℕ). set t j 0) e here ∙ ap (λ (n : ℕ). cleared n s₀) (sym more)

pub set-dropped : (s : List ℕ) → length s ≡ state_length → view (set (cleared 16 s) 10 0) ≡ dropped (view s)
set-dropped s long = front 28 (λ s. view (set (cleared 16 s) 10 0) ≡ dropped (view s)) s (omega arith) refl

pub set-position : (s : List ℕ) → length s ≡ state_length → (k : ℕ) → view (set s 11 k) ≡ positioned k (view s)
set-position s long k = front 12 (λ s. view (set s 11 k) ≡ positioned k (view s)) s (omega arith) refl

-- the machine with other flags
abbrev pub flagged : Flags → Machine → Machine
flagged x m =
    record {
      plain = record {
        output = record { byte = m.plain.output.byte; full = x.full; mouse = x.mouse };
        errors = record { terr = x.terr; perr = x.perr; ttim = m.plain.errors.ttim };
        host = record {
          command = x.command;
          pending = m.plain.host.pending;
          cell = m.plain.host.cell;
          overlay = m.plain.host.overlay;
          nibble = m.plain.host.nibble;
        };
        ports = m.plain.ports;
        sending = m.plain.sending;
        breaks = x.breaks;
        locked = x.locked;
        ram = m.plain.ram;
        settings = m.plain.settings;
      };
      secret = m.secret;
    }

pub set-flags : (s : List ℕ) → length s ≡ state_length → (f : ℕ) (x : Flags) → flags_of f ≡ x → view (set s 1 f) ≡ flagged x (view s)
set-flags s long f x same =
    front 12 (λ s. view (set s 1 f) ≡ flagged x (view s)) s (omega arith) (ap (λ (y : Flags). flagged y (view (shown s))) same)

-- a store past the front
set_later : (front rest : List ℕ) (k v : ℕ) → set (front ++ rest) (length front + k) v ≡ front ++ set rest k v
set_later [] rest k v =
    let here : 0 + k ≡ k = omega arith in
    ap (λ (i : ℕ). set rest i v) here
set_later (x ∷ front) rest k v =
    let later : suc (length front) + k ≡ suc (length front + k) = omega arith in
    ap (λ (i : ℕ). set (x ∷ front ++ rest) i v) later ∙ ap (λ (xs : List ℕ). x ∷ xs) (set_later front rest k v)

-- the RAM's cells are the bytes from 28 on
pub ram_of : (s : List ℕ) → length s ≡ state_length → get_or s 28 0 ∷ take 31 (drop 29 s) ≡ take 32 (drop 28 s)
ram_of s long = ap (take 32) (sym (drop-cons s 28 0 (omega arith)))

-- a store in the RAM leaves all else
set_beside : (s : List ℕ) → length s ≡ state_length → (k v : ℕ) → k < 32 → (cells : List ℕ) →
    lift (λ p. with_ram p cells) (view (set s (28 + k) v)) ≡ lift (λ p. with_ram p cells) (view s)
set_beside s long k v h cells =
    let far : 28 + k ≡ 12 + (16 + k) = omega arith in
    let seen : List ℕ → Machine = λ t. lift (λ p. with_ram p cells) (view t) in
    let rest = drop 12 s in
    front 12 (λ t. seen (set t (28 + k) v) ≡ seen t) s (omega arith)
    (ap (λ (i : ℕ). seen (set (shown s) i v)) far ∙ ap seen (set_later (listed 0 12 s) rest (16 + k) v)
    ∙ rw (
      take-set-le 16 rest (16 + k) v (omega arith),
      get_or-set_other rest (16 + k) 48 v 0 (λ e. omega arith),
      get_or-set_other rest (16 + k) 49 v 0 (λ e. omega arith),
      get_or-set_other rest (16 + k) 50 v 0 (λ e. omega arith),
      get_or-set_other rest (16 + k) 51 v 0 (λ e. omega arith),
      get_or-set_other rest (16 + k) 52 v 0 (λ e. omega arith),
      drop-set-lt 53 rest (16 + k) v (omega arith),
    ) refl)

-- a cell of the RAM; cell 0 is the mode byte
pub set-cell : (s : List ℕ) → length s ≡ state_length → (k v : ℕ) → k < 32 → view (set s (28 + k) v) ≡ lift (λ p. with_ram p (set p.ram k v)) (view s)
set-cell s long k v h =
    let cells = set (get_or s 28 0 ∷ take 31 (drop 29 s)) k v in
    let ram : get_or (set s (28 + k) v) 28 0 ∷ take 31 (drop 29 (set s (28 + k) v)) ≡ cells =
    ram_of (set s (28 + k) v) (length-set s (28 + k) v ∙ long) ∙ ap (take 32) (drop-set-add 28 s k v)
    ∙ take-set-lt 32 (drop 28 s) k v h ∙ ap (λ (xs : List ℕ). set xs k v) (sym (ram_of s long))
    in
    ap (λ (xs : List ℕ). lift (λ p. with_ram p xs) (view (set s (28 + k) v))) ram ∙ set_beside s long k v h cells

-- one more byte of the lock code
pub set-appended : (s : List ℕ) → length s ≡ state_length → (v : ℕ) → get_or s 10 0 < 16 →
    view (set (set s (12 + get_or s 10 0) v) 10 (get_or s 10 0 + 1)) ≡ appended v (view s)
set-appended s long v =
    let rest = drop 12 s in
    let n = get_or s 10 0 in
    let others : n < 16 → (j : ℕ) → 16 ≤ j → j ≡ n → ⊥ = λ h j far e. omega arith in
    front 12 (λ s. get_or s 10 0 < 16 → view (set (set s (12 + get_or s 10 0) v) 10 (get_or s 10 0 + 1)) ≡ appended v (view s)) s (omega arith)
    (λ h.
    ap (λ (t : List ℕ). view (set t 10 (n + 1))) (set_later (listed 0 12 s) rest n v)
    ∙ rw (
      take-set-lt 16 rest n v h,
      drop-set-lt 17 rest n v (omega arith),
      get_or-set_other rest n 16 v 0 (others h 16 (omega arith)),
      get_or-set_other rest n 48 v 0 (others h 48 (omega arith)),
      get_or-set_other rest n 49 v 0 (others h 49 (omega arith)),
      get_or-set_other rest n 50 v 0 (others h 50 (omega arith)),
      get_or-set_other rest n 51 v 0 (others h 51 (omega arith)),
      get_or-set_other rest n 52 v 0 (others h 52 (omega arith)),
      drop-set-lt 53 rest n v (omega arith),
      code-append n (take 16 rest) (code_long s long) h v,
    ) refl)

-- a byte put, and the flags that go with it
abbrev with_byte : ℕ → Public → Public
with_byte b p = with_output p (record { byte = b; full = p.output.full; mouse = p.output.mouse })

pub set-output : (s : List ℕ) → length s ≡ state_length → (f b : ℕ) (x : Flags) → flags_of f ≡ x →
    view (set (set s 1 f) 0 b) ≡ flagged x (lift (with_byte b) (view s))
set-output s long f b x same =
    front 12 (λ s. view (set (set s 1 f) 0 b) ≡ flagged x (lift (with_byte b) (view s))) s
    (omega arith)
    (ap (λ (y : Flags). flagged y (view (set (shown s) 0 b))) same)

-- a command written: flags, pending code, cell, and no overlay
abbrev with_pending : ℕ → ℕ → Public → Public
with_pending code cell p = with_host p (record { command = p.host.command; pending = code; cell = cell; overlay = false; nibble = 0 })

abbrev pub stored_pending : ℕ → ℕ → List ℕ → List ℕ
stored_pending code cell s = set (set (set (set s 4 code) 5 cell) 6 0) 7 0

pub set-command : (s : List ℕ) → length s ≡ state_length → (f code cell : ℕ) (x : Flags) → flags_of f ≡ x →
    view (stored_pending code cell (set s 1 f)) ≡ flagged x (lift (with_pending code cell) (view s))
set-command s long f code cell x same =
    front 12
    (λ s. view (stored_pending code cell (set s 1 f)) ≡ flagged x (lift (with_pending code cell) (view s)))
    s
    (omega arith)
    (ap (λ (y : Flags). flagged y (view (stored_pending code cell (shown s)))) same)

-- locked, with nothing typed yet, or open
pub set-lock_set : (s : List ℕ) → length s ≡ state_length → (f : ℕ) (x : Flags) → flags_of f ≡ x → view (set (set s 1 f) 11 0) ≡ positioned 0 (flagged x (view s))
set-lock_set s long f x same = set-position (set s 1 f) (length-set s 1 f ∙ long) 0 ∙ ap (positioned 0) (set-flags s long f x same)

-- a cell past the RAM's end: nothing is stored
pub set-none : (s : List ℕ) → length s ≡ state_length → (k v : ℕ) → 32 ≤ k → view s ≡ lift (λ p. with_ram p (set p.ram k v)) (view s)
set-none s long k v h =
    let short : length (take 32 (drop 28 s)) ≤ k = simp length-take (omega arith) in
    let end : length (get_or s 28 0 ∷ take 31 (drop 29 s)) ≤ k = subst (λ (xs : List ℕ). length xs ≤ k) (sym (ram_of s long)) short in
    ap (λ (xs : List ℕ). lift (λ p. with_ram p xs) (view s)) (sym (set_out (get_or s 28 0 ∷ take 31 (drop 29 s)) k v end))
