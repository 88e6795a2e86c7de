-- Demand 3: paired lists get the same answers, whatever machine they run from. By induction on the places, the machines before them are alike.
-- Assumes nothing.
use Prim.Native.Nat.{ℕ, zero, suc, ◌≤◌, ◌<◌}
use mathlib.Core.Path.{◌≡◌, refl, ap, ap₂, sym, ◌∙◌, subst, subst₂}
use mathlib.Core.Bool.{Bool, true, not, ◌&&◌, not-not}
use mathlib.Core.List.{List, [], ◌∷◌, ◌++◌}
use native.Mathlib.Nat.{not-suc-le-zero, le_of_suc-le-suc}
use native.Mathlib.Omega.{arith}
use lib.Dec.{eqb, ltb}
use lib.ListN.{length, take}
use lib.Seq.{take_all, take-length}
use borrow.Author.Tests.{ne_eqb, ltb-true, ltb-false, le-ltb}
use Rattle.translation.proofs.Frame.{check_sound, frame_below}
use Rattle.translation.proofs.Tests.{split}
use Rattle.machine.specs.State.{Machine}
use Rattle.machine.specs.DataPort.{data_written}
use Rattle.machine.specs.Devices.{keyboard_frame}
use Rattle.machine.specs.Events.{Event, value, accept, step, answer}
use Rattle.machine.specs.Run.{after, answers}
use Rattle.machine.proofs.Laws.Events.{accept_data, accept_keyboard}
use Rattle.machine.proofs.Laws.Run.{after_last, answers_last}
use Rattle.machine.proofs.Laws.Alike.{Alike, StillAlike, EventsAlike, lift_alike, load_byte_alike, write_data-load, keys_alike}
use Rattle.machine.proofs.Laws.Alike.{accept_alike, step_alike, answer_alike}
use Rattle.secrecy.specs.Paired.{At, before, CodeByte, Key, Allowed, same, loading, trying, Paired}

-- One place: events that may stand there are alike, and leave alike machines alike.

key-limit : {e : Event} → Key e → value e ≤ 2047
key-limit {e} k =
    let framed = check_sound (value e) k.byte k.frame in
    omega (arith, frame_below k.byte framed.0)

events_alike : {m : Machine} {e f : Event} → Allowed m e f → EventsAlike e f
events_alike {e} (same s) = subst (EventsAlike e) s (record { kind = refl; high = refl; pulse = λ p. refl })
events_alike (loading now c d) =
    record {
      kind = c.kind ∙ sym d.kind;
      high = simp (c.kind, d.kind, le-ltb _ _ c.high, le-ltb _ _ d.high);
      pulse = λ p. simp (c.kind, d.kind);
    }
events_alike (trying now k l) =
    record {
      kind = k.kind ∙ sym l.kind;
      high = simp (k.kind, l.kind, le-ltb _ _ (key-limit k), le-ltb _ _ (key-limit l));
      pulse = λ p. simp (k.kind, l.kind);
    }

code_byte_nonzero : {e f : Event} → CodeByte e → CodeByte f → eqb (value e) 0 ≡ eqb (value f) 0
code_byte_nonzero {e} {f} c d = ne_eqb (value e) 0 (omega arith) ∙ sym (ne_eqb (value f) 0 (omega arith))

accept_allowed : {m n : Machine} {e f : Event} → Alike m n → Allowed m e f → StillAlike m n (accept m e) (accept n f)
accept_allowed {m} {n} {e} {f} h (same s) = subst (λ (f : Event). StillAlike m n (accept m e) (accept n f)) s (accept_alike e h)
accept_allowed {m} {n} {e} {f} h (loading now c d) = λ together.
    let then : n.plain.host.pending ≡ 3 = ap (λ p. p.host.pending) (sym h.plain) ∙ now in
    rw (accept_data m e c.kind, accept_data n f d.kind, write_data-load (value e) m now, write_data-load (value f) n then)
    (load_byte_alike (value e) (value f) (code_byte_nonzero c d) (lift_alike data_written h))
accept_allowed {m} {n} {e} {f} h (trying now k l) =
    rw (accept_keyboard m e k.kind, accept_keyboard n f l.kind, k.frame, l.frame)
    (unfold keyboard_frame in keys_alike k.byte l.byte now (λ z. omega arith) (λ z. omega arith) h)

step_allowed : {m n : Machine} {e f : Event} → Alike m n → Allowed m e f → StillAlike m n (step m e) (step n f)
step_allowed h a = step_alike h (events_alike a) (accept_allowed h a)

-- Places of a list

take_at : (es : List Event) (k : ℕ) (e : Event) → At es k e → take (suc k) es ≡ take k es ++ (e ∷ [])
take_at [] k e p = cc
take_at (x ∷ es) zero e p = cc
take_at (x ∷ es) (suc k) e p = ap (λ (r : List Event). x ∷ r) (take_at es k e p)

at_place : (es : List Event) (k : ℕ) → k < length es → (e : Event) × At es k e
at_place [] k h = absurd (not-suc-le-zero h)
at_place (x ∷ es) zero h = (x, refl)
at_place (x ∷ es) (suc k) h = at_place es k (le_of_suc-le-suc h)

before-next : (m : Machine) (es : List Event) (k : ℕ) (e : Event) → At es k e → before m es (suc k) ≡ step (before m es k) e
before-next m es k e p = ap (after m) (take_at es k e p) ∙ after_last m (take k es) e

answers_next : (m : Machine) (es : List Event) (k : ℕ) (e : Event) → At es k e
    → answers m (take (suc k) es) ≡ answers m (take k es) ++ answer (before m es k) e
answers_next m es k e p = ap (answers m) (take_at es k e p) ∙ answers_last m (take k es) e

-- past the last place nothing is taken any more
take_past : (es : List Event) (k : ℕ) → length es ≤ k → take (suc k) es ≡ take k es
take_past es k h = take_all (suc k) es (omega arith) ∙ sym (take_all k es h)

-- The theorem

-- the lock of two locked machines opens in both or in neither
opens_at_both : (s t x y : Bool) → s ≡ true → t ≡ true → (s && not x) ≡ (t && not y) → x ≡ y
opens_at_both s t x y p q e = sym (not-not x) ∙ ap not (simp (p, q) at e) ∙ not-not y

module _ {m : Machine} {es fs : List Event} (paired : Paired m es fs) where
  -- k is a place of both lists, or past the last of both
  places : {A : Type 0} (k : ℕ) → (k < length es → (e f : Event) → At es k e → At fs k f → A) → (length es ≤ k → A) → A
  places k here past =
      split (ltb k (length es))
      (λ t.
      let h : k < length es = ltb-true _ _ t in
      let (e, p) = at_place es k h in
      let (f, q) = at_place fs k (omega arith) in
      here h e f p q)
      (λ t. past (ltb-false _ _ t))

  alike_next : (k : ℕ) (e f : Event) → At es k e → At fs k f → k < length es → Alike (before m es k) (before m fs k)
      → Alike (before m es (suc k)) (before m fs (suc k))
  alike_next k e f p q h a =
      subst₂ (StillAlike (before m es k) (before m fs k)) (sym (before-next m es k e p)) (sym (before-next m fs k f q))
      (step_allowed a (paired.differ k e f p q))
      (λ locked. opens_at_both _ _ _ _ locked (ap (λ p. p.locked) (sym a.plain) ∙ locked) (paired.openings k h))

  -- before each place the machines are alike
  pub before_alike : (k : ℕ) → Alike (before m es k) (before m fs k)
  before_alike zero = record { plain = refl; size = refl }
  before_alike (suc k) =
      places k (λ h e f p q. alike_next k e f p q h (before_alike k))
      (λ h. rw (take_past es k h, take_past fs k (omega arith)) (before_alike k))

  -- at each place the nine bytes are the same
  pub secret : (k : ℕ) (e f : Event) → At es k e → At fs k f → answer (before m es k) e ≡ answer (before m fs k) f
  secret k e f p q =
      answer_alike (before_alike k) (events_alike (paired.differ k e f p q))
      (subst₂ Alike (before-next m es k e p) (before-next m fs k f q) (before_alike (suc k)))

  -- and so are all the answers, of the whole lists and of as much of them as one takes
  pub secret-take : (n : ℕ) → answers m (take n es) ≡ answers m (take n fs)
  secret-take zero = refl
  secret-take (suc n) =
      places n
      (λ h e f p q.
      answers_next m es n e p ∙ ap₂ (λ r s. r ++ s) (secret-take n) (secret n e f p q) ∙ sym (answers_next m fs n f q))
      (λ h. rw (take_past es n h, take_past fs n (omega arith)) (secret-take n))

  pub secret-answers : answers m es ≡ answers m fs
  secret-answers =
      ap (answers m) (sym (take-length es)) ∙ secret-take (length es) ∙ ap (answers m) (rw paired.lengths (take-length fs))
