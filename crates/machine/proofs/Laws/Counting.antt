-- The machine's lock opens by the rule over all keys counted, from a fresh start and from an image, for every list of events.
-- Assumes nothing.
use Prim.Native.Nat.{ℕ}
use mathlib.Core.Path.{◌≡◌, refl, ap, sym, ◌∙◌, subst}
use mathlib.Core.Bool.{Bool, true, false, cond, not, ◌&&◌, ◌||◌, and-false}
use mathlib.Core.List.{List, [], ◌∷◌}
use lib.Dec.{eqb, leb}
use lib.ListN.{length}
use borrow.Author.Tests.{eqb-true, eqb-false}
use Rattle.translation.specs.Frames.{Check, sound, parity, broken, noise, check}
use Rattle.translation.specs.ScanCodes.{Yielded, nothing, byte}
use Rattle.translation.proofs.Tests.{split}
use Rattle.machine.specs.Settings.{Settings}
use Rattle.machine.specs.State.{Public, Secret, Machine, fresh, lift}
use Rattle.machine.specs.Lines.{second_set, input_port, inhibited, put}
use Rattle.machine.specs.DataPort.{load_byte, write_data}
use Rattle.machine.specs.Commands.{has_code, load_cut, code_asked, lock_command, acts, write_command}
use Rattle.machine.specs.Lock.{code_typed, reached, begun, key_completes, key_leads}
use Rattle.machine.specs.Devices.{errors_set, breaking, ignored, key_error, damaged_key, key_matched, try, yield_delivered, byte_delivered}
use Rattle.machine.specs.Devices.{translated, sound_key, keyboard_frame, mouse_put, mouse_frame, timed_out}
use Rattle.machine.specs.Events.{Event, value, is_write, refusal, accept, step}
use Rattle.machine.specs.Run.{after}
use Rattle.machine.specs.Kept.{Kept}
use Rattle.machine.specs.Counting.{Counting, counts, starts, passes, byte_counting, frame_counting, lock_counting, counting}
use Rattle.machine.specs.Counting.{keys_with, counting_completes, keys_after, ByRule}
use Rattle.machine.proofs.Laws.Cond.{cond-holds, cond_both, not_both}
use Rattle.machine.proofs.Laws.Lock.{reached-none, reached-begun, reached-next, code_typed-next}
use Rattle.machine.proofs.Laws.Events.{accepted_write, accept_keyboard, accept-holds, step-accepted, step-refused}
use Rattle.machine.proofs.Laws.Alike.{put_cell-locked}
use Rattle.machine.proofs.Laws.KeptParts.{SettingsKept}
use Rattle.machine.proofs.Laws.Kept.{keeps, fresh_kept}

-- ---- locked, what an event leaves: the lock as the rule has it, and if it is closed the position that the keys lead to
record Left (code keys : List ℕ) (c : Counting) (n : Machine) : Type 0 where
  locked : n.plain.locked ≡ not (counting_completes code c keys)
  position : n.plain.locked ≡ true → n.secret.position ≡ reached n.secret.code (keys_with c keys)

-- nothing is counted, and the lock stays
record Stays (m n : Machine) : Type 0 where
  locked : n.plain.locked ≡ true
  secret : n.secret ≡ m.secret

module _ (m : Machine) (l : m.plain.locked ≡ true) where
  -- ---- events other than frames from the keyboard
  mouse_put-locked : (b : ℕ) (p : Public) → p.locked ≡ true → (mouse_put b p).locked ≡ true
  unfolding mouse_put
  mouse_put-locked b p h = rw h

  mouse_frame-locked : (c : Check) → (mouse_frame c m.plain).locked ≡ true
  unfolding mouse_frame
  mouse_frame-locked (sound b) = mouse_put-locked b _ l
  mouse_frame-locked parity = mouse_put-locked 0xFF _ l
  mouse_frame-locked broken = mouse_put-locked 0xFF _ l
  mouse_frame-locked noise = l

  timed_out-locked : (timed_out m.plain).locked ≡ true
  unfolding timed_out
  timed_out-locked = cond_both (λ (p : Public). p.locked ≡ true) (eqb m.plain.sending.to 2) l l

  other_stays : (e : Event) → (e.kind ≡ 4 → ⊥) → refusal m.plain e ≡ 0 → Stays m (accept m e)
  other_stays e other a =
      let write : is_write e.kind ≡ true → ⊥ = λ w. not_both l (accepted_write m.plain e a w).1 in
      accept-holds m e (Stays m) (record { locked = l; secret = refl }) (record { locked = l; secret = refl })
      (λ k. absurd (write (simp k))) (λ k. absurd (write (simp k))) (λ k. absurd (other k))
      (record { locked = mouse_frame-locked (check (value e)); secret = refl }) (record { locked = l; secret = refl })
      (record { locked = timed_out-locked; secret = refl }) (λ _. record { locked = l; secret = refl })

-- ---- where the position before is the one that the keys lead to
module _ (keys : List ℕ) where
  abbrev Follows : Machine → Type 0
  Follows m = m.secret.position ≡ reached m.secret.code keys

  passes-left : (m : Machine) {n : Machine} → Follows m → Stays m n → Left m.secret.code keys passes n
  unfolding keys_with counting_completes
  passes-left m f s =
      record { locked = s.locked; position = λ _. subst (λ (x : Secret). x.position ≡ reached x.code keys) (sym s.secret) f }

  -- a key that is counted
  counts-left : (x : ℕ) (m : Machine) → m.plain.locked ≡ true → Follows m → Left m.secret.code keys (counts x) (key_matched x m)
  unfolding key_matched keys_with counting_completes
  counts-left x m l f =
      let code = m.secret.code in
      let k = m.secret.position in
      let unlocks : key_completes code k x ≡ code_typed code (x ∷ keys) = ap (λ (n : ℕ). key_completes code n x) f ∙ sym (code_typed-next code keys x) in
      let leads : key_leads code k x ≡ reached code (x ∷ keys) = ap (λ (n : ℕ). key_leads code n x) f ∙ sym (reached-next code keys x) in
      cond-holds (Left code keys (counts x)) (key_completes code k x)
      (λ o. record { locked = put_cell-locked 0x14 _ ∙ ap not (sym (sym unlocks ∙ o)); position = λ t. not_both t (put_cell-locked 0x14 _) })
      (λ o. record { locked = l ∙ ap not (sym (sym unlocks ∙ o)); position = λ _. leads })

  byte_left : (m : Machine) → m.plain.locked ≡ true → Follows m → (y : Yielded) → Left m.secret.code keys (byte_counting y m.plain) (yield_delivered y m)
  unfolding byte_counting yield_delivered byte_delivered try
  byte_left m l f nothing = passes-left m f (record { locked = l; secret = refl })
  byte_left m l f (byte x) =
      let stays : Left m.secret.code keys passes m = passes-left m f (record { locked = l; secret = refl }) in
      let tried : byte_delivered x m ≡ cond (inhibited m.plain) m (try x m) =
      ap (λ (t : Bool). cond (inhibited m.plain) m (cond t (try x m) (lift (put x) m))) l in
      rw tried
      (split (inhibited m.plain) (λ i. rw i stays)
      (λ i. split (ignored x m.plain) (λ g. rw (i, g) stays) (λ g. rw (i, g) (counts-left x m l f))))

  module _ (m : Machine) (l : m.plain.locked ≡ true) (f : Follows m) where
    sound-left : (y : Yielded) (d : Bool) →
        Left m.secret.code keys (byte_counting y m.plain) (yield_delivered y (lift (breaking d) (lift (errors_set false false) m)))
    unfolding byte_counting input_port
    sound-left nothing d = byte_left (lift (breaking d) (lift (errors_set false false) m)) l f nothing
    sound-left (byte x) d = byte_left (lift (breaking d) (lift (errors_set false false) m)) l f (byte x)

    damaged-left : (t e : Bool) → Left m.secret.code keys starts (damaged_key t e m)
    unfolding key_error input_port keys_with counting_completes
    damaged-left t e =
        record {
          locked = cond_both (λ (p : Public). p.locked ≡ true) (m.plain.locked || inhibited m.plain) l l;
          position = λ _. sym (reached-none m.secret.code);
        }

    frame-left : (c : Check) → Left m.secret.code keys (frame_counting c m.plain) (keyboard_frame c m)
    unfolding frame_counting keyboard_frame sound_key
    frame-left (sound b) = sound-left (translated b m.plain).yields (translated b m.plain).breaks
    frame-left parity = damaged-left false true
    frame-left broken = damaged-left true false
    frame-left noise = passes-left m f (record { locked = l; secret = refl })

    -- any event
    while-locked : (e : Event) → counting m.plain e ≡ lock_counting m.plain e
    unfolding counting
    while-locked e = ap (λ (t : Bool). cond t (lock_counting m.plain e) starts) l

    step_left : (e : Event) → Left m.secret.code keys (counting m.plain e) (step m e)
    unfolding lock_counting
    step_left e =
        rw (while-locked e)
        (split (eqb (refusal m.plain e) 0)
        (λ a.
        let accepted = eqb-true _ _ a in
        rw (step-accepted m e accepted, a)
        (split (eqb e.kind 4)
        (λ k. rw (k, accept_keyboard m e (eqb-true _ _ k)) (frame-left (check (value e))))
        (λ k. rw k (passes-left m f (other_stays m l e (eqb-false _ _ k) accepted)))))
        (λ r. rw (step-refused m e (eqb-false _ _ r)) (simp (r, and-false) (passes-left m f (record { locked = l; secret = refl })))))

-- ---- not locked: the position is 0 and stays so, also where the event locks
abbrev AtZero : Machine → Type 0
AtZero m = m.secret.position ≡ 0

module _ (m : Machine) (z : AtZero m) where
  write_data_zero : (v : ℕ) → AtZero (write_data v m)
  unfolding write_data load_byte
  write_data_zero v =
      cond_both AtZero (eqb m.plain.host.pending 3)
      (cond_both AtZero (eqb v 0) z (cond_both AtZero (leb 16 (length m.secret.code)) z z)) z

  load_cut_zero : AtZero (load_cut m)
  unfolding load_cut
  load_cut_zero = cond_both AtZero (eqb m.plain.host.pending 3) z z

  acts_zero : (c : ℕ) → AtZero (acts c m)
  unfolding acts code_asked lock_command
  acts_zero c =
      cond_both AtZero (eqb c 0xA4) (cond_both AtZero (has_code m && not (second_set m.plain)) z z)
      (cond_both AtZero (eqb c 0xA5) z (cond_both AtZero (eqb c 0xA6) (cond_both AtZero (has_code m) refl z) z))

  yield_delivered_zero : m.plain.locked ≡ false → (y : Yielded) → AtZero (yield_delivered y m)
  unfolding yield_delivered byte_delivered
  yield_delivered_zero u nothing = z
  yield_delivered_zero u (byte x) =
      cond_both AtZero (inhibited m.plain) z (cond-holds AtZero m.plain.locked (λ l. not_both l u) (λ _. z))

frame_zero : (m : Machine) → AtZero m → m.plain.locked ≡ false → (c : Check) → AtZero (keyboard_frame c m)
unfolding keyboard_frame sound_key
frame_zero m z u (sound b) = yield_delivered_zero _ z u (translated b m.plain).yields
frame_zero m z u parity = refl
frame_zero m z u broken = refl
frame_zero m z u noise = z

step_zero : (m : Machine) → AtZero m → m.plain.locked ≡ false → (e : Event) → AtZero (step m e)
unfolding step write_command
step_zero m z u e =
    cond_both AtZero (eqb (refusal m.plain e) 0)
    (accept-holds m e AtZero z z (λ _. write_data_zero m z (value e)) (λ _. acts_zero _ (load_cut_zero m z) _)
    (λ _. frame_zero m z u (check (value e))) z z z (λ _. z))
    z

-- ---- one event, and a list of them
record Following (m : Machine) (keys : List ℕ) : Type 0 where
  kept : Kept m
  follows : m.plain.locked ≡ true → Follows keys m

module _ (m : Machine) (keys : List ℕ) (f : Following m keys) where
  while_free : (e : Event) → m.plain.locked ≡ false → counting m.plain e ≡ starts
  unfolding counting
  while_free e free = rw free

  follows_next : (e : Event) → (step m e).plain.locked ≡ true → Follows (keys_with (counting m.plain e) keys) (step m e)
  unfolding keys_with
  follows_next e l =
      split m.plain.locked (λ was. (step_left keys m was (f.follows was) e).position l)
      (λ free. rw (while_free e free) (step_zero m (f.kept.unlocked free) free e ∙ sym (reached-none (step m e).secret.code)))

  following_next : (e : Event) → Following (step m e) (keys_with (counting m.plain e) keys)
  following_next e = record { kept = keeps m e f.kept; follows = follows_next e }

  by_following : ByRule m keys
  by_following = record { position = f.follows; unlocks = λ e l. (step_left keys m l (f.follows l) e).locked }

by_rule_after : (m : Machine) (keys : List ℕ) → Following m keys → (es : List Event) → ByRule (after m es) (keys_after m es keys)
unfolding after keys_after
by_rule_after m keys f [] = by_following m keys f
by_rule_after m keys f (e ∷ es) = by_rule_after (step m e) _ (following_next m keys f e) es

-- From any machine that keeps the body rules, with the keys that its position stands for.
pub lock_by_rule : (m : Machine) → Kept m → (es : List Event) → ByRule (after m es) (keys_after m es (begun m.secret.code m.secret.position))
lock_by_rule m k =
    by_rule_after m _
    (record { kept = k; follows = λ l. sym (reached-begun m.secret.code m.secret.position (k.locked l).0) })

-- From fresh no key has been counted.
pub lock_by_rule_fresh : (x : Settings) → SettingsKept x → (es : List Event) → ByRule (after (fresh x) es) (keys_after (fresh x) es [])
unfolding fresh begun
lock_by_rule_fresh x k = lock_by_rule (fresh x) (fresh_kept x k)
