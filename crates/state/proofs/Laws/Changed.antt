-- How changes of the state follow one another, and each store that the program makes as a change by a rule. Assumes nothing.
use mathlib.Core.Path.{◌≡◌, refl, ap, sym, subst, ◌∙◌}
use mathlib.Core.Bool.{Bool, true, false, cond, not, ◌&&◌, false≢true}
use mathlib.Core.List.{List, [], ◌∷◌}
use Prim.Native.Nat.{ℕ, zero, suc, ◌+◌, ◌≤◌, ◌<◌}
use native.Mathlib.Omega.{arith}
use lib.Dec.{eqb, ltb}
use lib.ListN.{length, get_or, set, length-set}
use lib.Seq.{get_or-set_same, get_or-set_other}
use native.Mathlib.Nat.{not-suc-le-zero}
use borrow.Author.Tests.{ltb-true, eqb-true, eqb-false}
use Rattle.translation.specs.Bits.{has, weight, nibble}
use Rattle.translation.proofs.Tests.{split, and_true}
use Rattle.machine.specs.State.{Machine, lift, with_output, with_errors, with_host, after_command, with_ram}
use Rattle.machine.specs.Lines.{at_mode, with_mode}
use Rattle.machine.specs.DataPort.{settled, data_written, send, low_latched, high_latched, high_writable, latched, dropped, appended}
use Rattle.machine.specs.SecondSet.{input_latched, permitted}
use Rattle.machine.specs.Commands.{overlaid, lock_set}
use Rattle.machine.specs.Devices.{errors_set, not_taken, breaking, positioned, lock_cleared, pinned}
use Rattle.machine.specs.Events.{emptied}
use Rattle.state.specs.Flags as flags
use Rattle.state.specs.Flags.{Flags, flags_of, Reflagged}
use Rattle.state.specs.View.{state_length, options_of, at, public, view}
use Rattle.machine.specs.Kept.{Kept}
use Rattle.state.specs.Changed.{Changed, KeptChange, KeptWhere}
use Rattle.state.proofs.Laws.View as stores
use Rattle.state.proofs.Laws.View.{cleared, set-dropped}
use Rattle.machine.proofs.Laws.Bits.{nibble_0, nibble_1, nibble_3, nibble-again, high_latches-again, latches_below}
use Rattle.state.proofs.Laws.Body.{settings_options, tidied, Tidy, tidy_state, state_tidy}

-- ---- Changed
pub changed : {rule : Machine → Machine} {s s' : List ℕ} → length s ≡ state_length → view s' ≡ rule (view s) → (Tidy s → Tidy s') → Changed rule s s'
changed {s = s} {s' = s'} long machine tidy =
    record { machine = machine; bytes = λ e. tidy_state s' (tidy (state_tidy s long e)) }

-- one after the other
pub chain : {f g : Machine → Machine} {s t u : List ℕ} → Changed f s t → Changed g t u → Changed (λ m. g (f m)) s u
chain {g = g} one other = record { machine = other.machine ∙ ap g one.machine; bytes = λ e. other.bytes (one.bytes e) }

-- a rule that does the same to this machine
pub by_rule : {f g : Machine → Machine} {s t : List ℕ} → Changed f s t → f (view s) ≡ g (view s) → Changed g s t
by_rule one same = record { machine = one.machine ∙ same; bytes = one.bytes }

-- several changes, and a rule that does the same to this machine as theirs
pub by_two : {f g h : Machine → Machine} {s t u : List ℕ} → Changed f s t → Changed g t u → g (f (view s)) ≡ h (view s) → Changed h s u
by_two one other same = by_rule (chain one other) same

pub by_three : {f g h k : Machine → Machine} {s t u v : List ℕ} → Changed f s t → Changed g t u → Changed h u v →
    h (g (f (view s))) ≡ k (view s) →
    Changed k s v
by_three one two three same = by_rule (chain (chain one two) three) same

pub by_four : {f g h k l : Machine → Machine} {s t u v w : List ℕ} → Changed f s t → Changed g t u → Changed h u v → Changed k v w →
    k (h (g (f (view s)))) ≡ l (view s) →
    Changed l s w
by_four one two three four same = by_rule (chain (chain (chain one two) three) four) same

-- nothing is stored
pub untouched : {f : Machine → Machine} {s : List ℕ} → view s ≡ f (view s) → Changed f s s
untouched same = record { machine = same; bytes = λ e. e }

-- ---- KeptChange
pub kept-change : {rule : Machine → Machine} {s t : List ℕ} → Changed rule s t → (Kept (view s) → Kept (rule (view s))) → KeptChange rule s t
kept-change one keeps = record { change = one; kept = λ k. subst Kept (sym one.machine) (keeps k) }

-- ---- KeptWhere
pub kept_where : {holds : Type 0} {rule : Machine → Machine} {s t : List ℕ} → Changed rule s t → (holds → Kept (view s) → Kept (rule (view s))) →
    KeptWhere holds rule s t
kept_where one keeps = record { change = one; kept = λ h k. subst Kept (sym one.machine) (keeps h k) }

-- ---- a store that keeps what stands for nothing 0
pub record Fits (i v : ℕ) : Type 0 where
  pub flags : i ≡ 1 → v < 128
  pub latches : i ≡ 3 → v < 4
  pub overlay : i ≡ 6 → v < 2
  pub size : i ≡ 10 → ⊥
  pub code : (k : ℕ) → k < 16 → i ≡ 12 + k → ⊥
  pub beyond : (k : ℕ) → i ≡ 60 + k → tidied k v ≡ v

holds-set : (P : ℕ → Type 0) (s : List ℕ) (i v j : ℕ) → (i ≡ j → P v) → P (get_or s j 0) → P (get_or (set s i v) j 0)
holds-set P [] i v j new old = old
holds-set P (x ∷ s) zero v zero new old = new refl
holds-set P (x ∷ s) zero v (suc j) new old = old
holds-set P (x ∷ s) (suc i) v zero new old = old
holds-set P (x ∷ s) (suc i) v (suc j) new old = holds-set P s i v j (λ e. new (ap suc e)) old

bound_set : (s : List ℕ) (i v j b : ℕ) → (i ≡ j → v < b) → get_or s j 0 < b → get_or (set s i v) j 0 < b
bound_set s i v j b = holds-set (λ x. x < b) s i v j

pub tidy_set : {i v : ℕ} {s : List ℕ} → Fits i v → Tidy s → Tidy (set s i v)
tidy_set {i} {v} {s} f t =
    let size : at (set s i v) 10 ≡ at s 10 = get_or-set_other s i 10 v 0 (λ e. f.size (sym e)) in
    record {
      long = length-set s i v ∙ t.long;
      flags = bound_set s i v 1 128 f.flags t.flags;
      latches = bound_set s i v 3 4 f.latches t.latches;
      overlay = bound_set s i v 6 2 f.overlay t.overlay;
      size = rw size t.size;
      rest = λ k low high. get_or-set_other s i (12 + k) v 0 (λ e. f.code k high (sym e)) ∙ t.rest k (omega (arith, size)) high;
      beyond = λ k. holds-set (λ x. tidied k x ≡ x) s i v (60 + k) (f.beyond k) (t.beyond k);
    }

-- the bytes of which every value stands for something
abbrev unpadded : ℕ → Bool
unpadded i = not (eqb i 1) && (not (eqb i 3) && (not (eqb i 6) && not (eqb i 10)))

abbrev pub free : ℕ → Bool
free i = unpadded i && ltb i 12

pub fits_free : {v : ℕ} (i : ℕ) → free i ≡ true → Fits i v
fits_free i passed =
    let other : (j : ℕ) → free j ≡ false → i ≡ j → ⊥ = λ j no e. false≢true (sym no ∙ ap free (sym e) ∙ passed) in
    let early : i < 12 = ltb-true i 12 (and_true (unpadded i) (ltb i 12) passed).1 in
    record {
      flags = λ e. absurd (other 1 refl e);
      latches = λ e. absurd (other 3 refl e);
      overlay = λ e. absurd (other 6 refl e);
      size = other 10 refl;
      code = λ k h e. absurd (omega (arith, early));
      beyond = λ k e. absurd (omega (arith, early));
    }

pub fits_cell : {v : ℕ} (k : ℕ) → k < 32 → Fits (28 + k) v
fits_cell k inside =
    record {
      flags = λ e. omega arith;
      latches = λ e. omega arith;
      overlay = λ e. omega arith;
      size = λ e. omega arith;
      code = λ j h e. omega arith;
      beyond = λ j e. absurd (omega arith);
    }

-- the bytes before the code's length of which not every value does
fits_early : {i v : ℕ} → i < 10 → (i ≡ 1 → v < 128) → (i ≡ 3 → v < 4) → (i ≡ 6 → v < 2) → Fits i v
fits_early early flags latches overlay =
    record {
      flags = flags;
      latches = latches;
      overlay = overlay;
      size = λ e. omega arith;
      code = λ k h e. omega arith;
      beyond = λ k e. absurd (omega arith);
    }

-- and those behind the body
fits_late : {v : ℕ} (k : ℕ) → tidied k v ≡ v → Fits (60 + k) v
fits_late {v} k tidy =
    record {
      flags = λ e. omega arith;
      latches = λ e. omega arith;
      overlay = λ e. omega arith;
      size = λ e. omega arith;
      code = λ j h e. omega arith;
      beyond = λ j e. let same : k ≡ j = omega arith in subst (λ (i : ℕ). tidied i v ≡ v) same tidy;
    }

fits_flags : {v : ℕ} → v < 128 → Fits 1 v
fits_flags h = fits_early (omega arith) (λ e. h) (λ e. omega arith) (λ e. omega arith)

fits_latches : {v : ℕ} → v < 4 → Fits 3 v
fits_latches h = fits_early (omega arith) (λ e. omega arith) (λ e. h) (λ e. omega arith)

fits_overlay : {v : ℕ} → v < 2 → Fits 6 v
fits_overlay h = fits_early (omega arith) (λ e. omega arith) (λ e. omega arith) (λ e. h)

-- ---- bytes of which every value stands for something
module _ {s : List ℕ} (long : length s ≡ state_length) where
  pub stored-pins : {v : ℕ} → Changed (lift (pinned v)) s (set s 2 v)
  stored-pins {v} = changed long (stores.set-pins s long v) (tidy_set (fits_free 2 refl))

  pub stored-settled : Changed (lift settled) s (set (set s 4 0) 5 0)
  stored-settled =
      changed long (stores.set-settled s long) (λ t. tidy_set (fits_free 5 refl) (tidy_set (fits_free 4 refl) t))

  pub stored-sending : {to v : ℕ} → Changed (lift (send to v)) s (set (set s 8 to) 9 v)
  stored-sending {to} {v} =
      changed long (stores.set-sending s long to v) (λ t. tidy_set (fits_free 9 refl) (tidy_set (fits_free 8 refl) t))

  pub stored-position : {k : ℕ} → Changed (positioned k) s (set s 11 k)
  stored-position {k} = changed long (stores.set-position s long k) (tidy_set (fits_free 11 refl))

  pub stored-cell : {k v : ℕ} → k < 32 → Changed (lift (λ p. with_ram p (set p.ram k v))) s (set s (28 + k) v)
  stored-cell {k} {v} h = changed long (stores.set-cell s long k v h) (tidy_set (fits_cell k h))

  pub stored-none : {k v : ℕ} → 32 ≤ k → Changed (lift (λ p. with_ram p (set p.ram k v))) s s
  stored-none {k} {v} h = untouched (stores.set-none s long k v h)

  pub stored-mode : {v : ℕ} → Changed (lift (with_mode v)) s (set s 28 v)
  stored-mode = stored-cell {k = 0} (omega arith)

  -- ---- latches and overlay
  stored_low_latches : (a b : Bool) → Changed (lift (low_latched a b)) s (set s 3 (nibble a b false false))
  stored_low_latches a b =
      changed long (stores.set-latches s long (nibble a b false false) ∙ rw (nibble_0 a b false false, nibble_1 a b false false))
      (tidy_set (fits_latches (latches_below a b)))

  pub stored-high_latches : (a b c : Bool) {v : ℕ} → v ≡ nibble a b false c → Changed (lift (high_latched a b c)) s (set s 62 v)
  stored-high_latches a b c is_v =
      subst (λ (x : ℕ). Changed (lift (high_latched a b c)) s (set s 62 x)) (sym is_v)
      (changed long
      (stores.set-high_latches s long (nibble a b false c) ∙ rw (nibble_0 a b false c, nibble_1 a b false c, nibble_3 a b false c))
      (tidy_set (fits_late 2 (high_latches-again a b c))))

  -- the latches of P1, and whether D1h may write P22 and P23
  pub stored-input_latches : {v : ℕ} → Changed (lift (input_latched v)) s (set s 61 v)
  stored-input_latches {v} = changed long (stores.set-input_latches s long v) (tidy_set (fits_late 1 refl))

  pub stored-permitted : (on : Bool) {v : ℕ} → v ≡ options_of (public s).settings on → Changed (lift (permitted on)) s (set s 60 v)
  stored-permitted on is_v =
      let x = (public s).settings in
      subst (λ (n : ℕ). Changed (lift (permitted on)) s (set s 60 n)) (sym is_v)
      (changed long
      (stores.set-permitted s long (options_of x on) (settings_options x on) ∙ rw (nibble_3 x.mouse_lock x.at_mode x.second_set on))
      (tidy_set (fits_late 0 (nibble-again x.mouse_lock x.at_mode x.second_set on))))

  -- the transmit time-out
  pub stored-timeout : (b : Bool) → Changed (lift (stores.timeout_set b)) s (set s 63 (weight 1 b))
  stored-timeout true = changed long (stores.set-timeout s long 1) (tidy_set (fits_late 3 (unfold nibble in refl)))
  stored-timeout false = changed long (stores.set-timeout s long 0) (tidy_set (fits_late 3 (unfold nibble in refl)))

  pub stored-overlay : {n : ℕ} → Changed (lift (overlaid n)) s (set (set s 6 1) 7 n)
  stored-overlay {n} =
      changed long (stores.set-overlay s long n)
      (λ t. tidy_set (fits_free 7 refl) (tidy_set (fits_overlay (omega arith)) t))

-- ---- the latches of P2, all of them
pub stored_output_latches : {s : List ℕ} → length s ≡ state_length → (a b c d e : Bool) {low high : ℕ} → low ≡ nibble a b false false →
    high ≡ nibble c d false e →
    Changed (lift (λ p. high_latched c d e (low_latched a b p))) s (set (set s 3 low) 62 high)
stored_output_latches {s} long a b c d e {low} {high} is_low is_high =
    subst (λ (n : ℕ). Changed (lift (λ p. high_latched c d e (low_latched a b p))) s (set (set s 3 n) 62 high)) (sym is_low)
    (chain (stored_low_latches long a b) (stored-high_latches (length-set s 3 _ ∙ long) c d e is_high))

-- as D1h writes them
pub stored-latched : {s : List ℕ} → length s ≡ state_length → (v : ℕ) {high all c d e : Bool} {low upper : ℕ} →
    high ≡ high_writable (public s) →
    all ≡ at_mode (public s) →
    c ≡ cond high (has v 2) (public s).ports.p22 →
    d ≡ cond high (has v 3) (public s).ports.p23 →
    e ≡ cond all (has v 5) (public s).ports.p25 →
    low ≡ nibble (has v 0) (has v 1) false false →
    upper ≡ nibble c d false e →
    Changed (lift (latched v)) s (set (set s 3 low) 62 upper)
stored-latched {s} long v {c = c} {d = d} {e = e} is_high is_all is_c is_d is_e is_low is_upper =
    let q = (public s).ports in
    let lines : Bool → Bool → Bool → Machine = λ x y z. lift (λ p. high_latched x y z (low_latched (has v 0) (has v 1) p)) (view s) in
    by_rule (stored_output_latches long (has v 0) (has v 1) c d e is_low is_upper)
    ((λ i. lines (is_c i) (is_d i) (is_e i))
    ∙ λ i. lines (cond (is_high i) (has v 2) q.p22) (cond (is_high i) (has v 3) q.p23) (cond (is_all i) (has v 5) q.p25))

-- ---- flags: f is the flags' byte with some of them replaced and bit 7 kept
tidy_flags : {s : List ℕ} {x : Flags} {f : ℕ} → Reflagged x (at s 1) f → Tidy s → Tidy (set s 1 f)
tidy_flags h t = tidy_set (fits_flags (omega (arith, h.spare, t.flags))) t

module _ {s : List ℕ} {f : ℕ} (long : length s ≡ state_length) where
  pub stored-put : {b : ℕ} {mouse : Bool} → Reflagged (flags.with_output true mouse (flags_of (at s 1))) (at s 1) f →
      Changed (lift (λ p. with_output p (record { byte = b; full = true; mouse = mouse }))) s (set (set s 1 f) 0 b)
  stored-put {b} h =
      changed long (stores.set-output s long f b _ h.flags)
      (λ t. tidy_set (fits_free 0 refl) (tidy_flags h t))

  pub stored-emptied : Reflagged (flags.with_output false false (flags_of (at s 1))) (at s 1) f → Changed (lift emptied) s (set s 1 f)
  stored-emptied h = changed long (stores.set-flags s long f _ h.flags) (tidy_flags h)

  pub stored-data_written : Reflagged (flags.with_command false (flags_of (at s 1))) (at s 1) f → Changed (lift data_written) s (set s 1 f)
  stored-data_written h = changed long (stores.set-flags s long f _ h.flags) (tidy_flags h)

  stored_error_flags : {t e : Bool} → Reflagged (flags.with_errors t e (flags_of (at s 1))) (at s 1) f →
      Changed (lift (λ p. with_errors p (record { terr = t; perr = e; ttim = p.errors.ttim }))) s (set s 1 f)
  stored_error_flags h = changed long (stores.set-flags s long f _ h.flags) (tidy_flags h)

  pub stored-errors : {t e : Bool} → Reflagged (flags.with_errors t e (flags_of (at s 1))) (at s 1) f →
      Changed (lift (errors_set t e)) s (set (set s 1 f) 63 0)
  stored-errors h = chain (stored_error_flags h) (stored-timeout (length-set s 1 f ∙ long) false)

  pub stored-not_taken : {apart : Bool} {v : ℕ} → apart ≡ at_mode (public s) → v ≡ weight 1 apart →
      Reflagged (flags.with_errors (not apart) false (flags_of (at s 1))) (at s 1) f →
      Changed (lift not_taken) s (set (set s 1 f) 63 v)
  stored-not_taken {apart} is_apart is_bit h =
      subst (λ (x : ℕ). Changed (lift not_taken) s (set (set s 1 f) 63 x)) (sym is_bit)
      (by_two (stored_error_flags h) (stored-timeout (length-set s 1 f ∙ long) apart) (rw is_apart))

  pub stored-breaks : {b : Bool} → Reflagged (flags.with_breaks b (flags_of (at s 1))) (at s 1) f → Changed (lift (breaking b)) s (set s 1 f)
  stored-breaks h = changed long (stores.set-flags s long f _ h.flags) (tidy_flags h)

  pub stored-lock_set : Reflagged (flags.with_locked true (flags_of (at s 1))) (at s 1) f → Changed lock_set s (set (set s 1 f) 11 0)
  stored-lock_set h =
      changed long (stores.set-lock_set s long f _ h.flags) (λ t. tidy_set (fits_free 11 refl) (tidy_flags h t))

  pub stored-lock_cleared : Reflagged (flags.with_locked false (flags_of (at s 1))) (at s 1) f → Changed lock_cleared s (set (set s 1 f) 11 0)
  stored-lock_cleared h =
      changed long (stores.set-lock_set s long f _ h.flags) (λ t. tidy_set (fits_free 11 refl) (tidy_flags h t))

  -- a command written: flags, pending code, cell, and no overlay
  pub stored-command : {code cell : ℕ} → Reflagged (flags.with_command true (flags_of (at s 1))) (at s 1) f →
      Changed (lift (λ p. with_host p (after_command code cell))) s (set (set (set (set (set s 1 f) 4 code) 5 cell) 6 0) 7 0)
  stored-command {code} {cell} h =
      changed long
      (stores.set-command s long f code cell _ h.flags)
      (λ t.
      tidy_set (fits_free 7 refl)
      (tidy_set (fits_overlay (omega arith)) (tidy_set (fits_free 5 refl) (tidy_set (fits_free 4 refl) (tidy_flags h t)))))

-- ---- the lock code
module _ {s : List ℕ} (long : length s ≡ state_length) where
  -- one more byte: what comes after it is 0 as before
  pub stored-appended : {v : ℕ} → at s 10 < 16 → Changed (appended v) s (set (set s (12 + at s 10) v) 10 (at s 10 + 1))
  stored-appended {v} room =
      changed long (stores.set-appended s long v room)
      (λ t.
      let n = at s 10 in
      let later : (j : ℕ) → (12 + n ≡ j → ⊥) → (10 ≡ j → ⊥) → at (set (set s (12 + n) v) 10 (n + 1)) j ≡ at s j =
      λ j a b. get_or-set_other (set s (12 + n) v) 10 j (n + 1) 0 (λ e. b (sym e)) ∙ get_or-set_other s (12 + n) j v 0 (λ e. a (sym e)) in
      let size : at (set (set s (12 + n) v) 10 (n + 1)) 10 ≡ n + 1 = get_or-set_same (set s (12 + n) v) 10 (n + 1) 0 (simp length-set (omega arith)) in
      record {
        long = simp length-set long;
        flags = rw (later 1 (λ e. omega arith) (λ e. omega arith)) t.flags;
        latches = rw (later 3 (λ e. omega arith) (λ e. omega arith)) t.latches;
        overlay = rw (later 6 (λ e. omega arith) (λ e. omega arith)) t.overlay;
        size = rw size (omega arith);
        rest = λ k low high. later (12 + k) (λ e. omega (arith, size, low)) (λ e. omega arith) ∙ t.rest k (omega (arith, size, low)) high;
        beyond = λ k. rw (later (60 + k) (λ e. omega arith) (λ e. omega arith)) (t.beyond k);
      })

-- dropped: its sixteen bytes are 0
module _ (s : List ℕ) where
  length_cleared : (n : ℕ) → length (cleared n s) ≡ length s
  length_cleared zero = refl
  length_cleared (suc n) = length-set (cleared n s) (12 + n) 0 ∙ length_cleared n

  cleared_other : (n j : ℕ) → ((k : ℕ) → k < n → j ≡ 12 + k → ⊥) → at (cleared n s) j ≡ at s j
  cleared_other zero j apart = refl
  cleared_other (suc n) j apart =
      get_or-set_other (cleared n s) (12 + n) j 0 0 (apart n (omega arith)) ∙ cleared_other n j (λ k h. apart k (omega arith))

  cleared_zero : (n k : ℕ) → 12 + n ≤ length s → k < n → at (cleared n s) (12 + k) ≡ 0
  cleared_zero zero k room h = absurd (not-suc-le-zero h)
  cleared_zero (suc n) k room h =
      split (eqb k n)
      (λ e.
      ap (λ (j : ℕ). at (set (cleared n s) (12 + n) 0) (12 + j)) (eqb-true k n e)
      ∙ get_or-set_same (cleared n s) (12 + n) 0 0 (omega (arith, length_cleared n)))
      (λ e.
      get_or-set_other (cleared n s) (12 + n) (12 + k) 0 0 (λ same. eqb-false k n e (omega arith))
      ∙ cleared_zero n k (omega arith) (omega (arith, eqb-false k n e)))

  pub stored-dropped : length s ≡ state_length → Changed dropped s (set (cleared 16 s) 10 0)
  stored-dropped long =
      changed long (set-dropped s long)
      (λ t.
      let long' : length (cleared 16 s) ≡ state_length = length_cleared 16 ∙ long in
      let later : (j : ℕ) → (j ≡ 10 → ⊥) → ((k : ℕ) → k < 16 → j ≡ 12 + k → ⊥) → at (set (cleared 16 s) 10 0) j ≡ at s j =
      λ j a b. get_or-set_other (cleared 16 s) 10 j 0 0 a ∙ cleared_other 16 j b in
      record {
        long = length-set (cleared 16 s) 10 0 ∙ long';
        flags = rw (later 1 (λ e. omega arith) (λ k h e. omega arith)) t.flags;
        latches = rw (later 3 (λ e. omega arith) (λ k h e. omega arith)) t.latches;
        overlay = rw (later 6 (λ e. omega arith) (λ k h e. omega arith)) t.overlay;
        size = rw (get_or-set_same (cleared 16 s) 10 0 0 (omega (arith, long'))) (omega arith);
        rest = λ k low high.
            get_or-set_other (cleared 16 s) 10 (12 + k) 0 0 (λ e. omega arith) ∙ cleared_zero 16 k (omega arith) high;
        beyond = λ k. rw (later (60 + k) (λ e. omega arith) (λ j h e. omega arith)) (t.beyond k);
      })
