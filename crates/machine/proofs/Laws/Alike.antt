-- Machines that are alike: equal in public, with codes of one length. Every rule leaves two of them alike; for a try, that is where the lock
-- opens in both or in neither. So no answer shows more of the lock code than its length.
-- Assumes nothing.
use Prim.Native.Nat.{ℕ}
use mathlib.Core.Path.{◌≡◌, refl, ap, sym, ◌∙◌, subst}
use mathlib.Core.Bool.{Bool, true, false, cond, not, ◌&&◌, ◌||◌, or-true, false≢true}
use lib.Dec.{eqb, ltb}
use lib.ListN.{length, get_or, length-append}
use borrow.Author.Tests.{eqb-true}
use Rattle.translation.specs.Frames.{Check, sound, parity, broken, noise, check}
use Rattle.translation.specs.ScanCodes.{Translation, Yielded, nothing, byte, code}
use Rattle.translation.proofs.ScanCodes.{translate-other}
use Rattle.translation.proofs.Tests.{split}
use Rattle.machine.specs.State.{Public, Machine, with_locked, lift}
use Rattle.machine.specs.Lines.{second_set, put, put_cell, inhibited, translates}
use Rattle.machine.specs.DataPort.{settled, data_written, plain_data, dropped, appended, code_full, load_byte, write_data}
use Rattle.machine.specs.Commands.{understood, command_written, load_cut, plain_command, has_code, code_asked, lock_set, lock_command, acts, write_command}
use Rattle.machine.specs.Devices.{errors_set, positioned, key_error, breaking, damaged_key, ignored, unlocked, key_matched, try}
use Rattle.machine.specs.Devices.{yield_delivered, byte_delivered, translated, sound_key, keyboard_frame, mouse_frame, taken, timed_out, pinned}
use Rattle.machine.specs.Lock.{key_completes}
use Rattle.machine.specs.Events.{Event, value, limit, refusal, emptied, accept, step, pulse, reply, answer}
use Rattle.machine.proofs.Laws.Events.{accept_keyboard}

pub record Alike (m n : Machine) : Type 0 where
  pub plain : m.plain ≡ n.plain
  pub size : length m.secret.code ≡ length n.secret.code

-- a rule of the public part
pub lift_alike : {m n : Machine} (f : Public → Public) → Alike m n → Alike (lift f m) (lift f n)
lift_alike f h = record { plain = ap f h.plain; size = h.size }

-- either case of a test
cond_alike : {m n x y : Machine} (t : Bool) → (t ≡ true → Alike m n) → (t ≡ false → Alike x y) → Alike (cond t m x) (cond t n y)
cond_alike true one other = one refl
cond_alike false one other = other refl

-- either case of a test of the public part
test_alike : {m n u v x y : Machine} (f : Public → Bool) → Alike m n → Alike u v → Alike x y
    → Alike (cond (f m.plain) u x) (cond (f n.plain) v y)
test_alike {m} f h one other = rw (← h.plain) (cond_alike (f m.plain) (λ t. one) (λ t. other))

-- either case of a test of the code's length
size_alike : {m n u v x y : Machine} (f : Machine → Bool) → Alike m n → f m ≡ f n → Alike u v → Alike x y → Alike (cond (f m) u x) (cond (f n) v y)
size_alike {m} f h same one other = rw (← same) (cond_alike (f m) (λ t. one) (λ t. other))

-- Kind 1

dropped_alike : {m n : Machine} → Alike m n → Alike (dropped m) (dropped n)
dropped_alike h = record { plain = h.plain; size = refl }

appended_alike : {m n : Machine} (v w : ℕ) → Alike m n → Alike (appended v m) (appended w n)
appended_alike v w h = record { plain = h.plain; size = simp length-append (rw h.size) }

-- bytes of a load that both end it or both do not
pub load_byte_alike : {m n : Machine} (v w : ℕ) → eqb v 0 ≡ eqb w 0 → Alike m n → Alike (load_byte v m) (load_byte w n)
unfolding load_byte
load_byte_alike v w z h =
    let end = lift_alike settled h in
    rw (← z) (cond_alike (eqb v 0) (λ t. end) (λ t. size_alike code_full h (rw h.size) (dropped_alike end) (appended_alike v w h)))

write_data_alike : {m n : Machine} (v : ℕ) → Alike m n → Alike (write_data v m) (write_data v n)
unfolding write_data
write_data_alike v h =
    test_alike (λ p. eqb p.host.pending 3) h (load_byte_alike v v refl (lift_alike data_written h))
    (lift_alike settled (lift_alike (plain_data v) (lift_alike data_written h)))

pub write_data-load : (v : ℕ) (m : Machine) → m.plain.host.pending ≡ 3 → write_data v m ≡ load_byte v (lift data_written m)
unfolding write_data
write_data-load v m loading = simp loading

-- Kind 3

load_cut_alike : {m n : Machine} → Alike m n → Alike (load_cut m) (load_cut n)
unfolding load_cut
load_cut_alike h = test_alike (λ p. eqb p.host.pending 3) h (dropped_alike h) h

code_asked_alike : {m n : Machine} → Alike m n → Alike (code_asked m) (code_asked n)
unfolding code_asked
code_asked_alike h =
    size_alike (λ m. has_code m && not (second_set m.plain)) h (rw (h.size, h.plain)) (lift_alike (put 0xFA) h) (lift_alike (put 0xF1) h)

lock_set_alike : {m n : Machine} → Alike m n → Alike (lock_set m) (lock_set n)
lock_set_alike h = record { plain = ap (λ p. with_locked p true) h.plain; size = h.size }

lock_command_alike : {m n : Machine} → Alike m n → Alike (lock_command m) (lock_command n)
unfolding lock_command
lock_command_alike h = size_alike has_code h (rw h.size) (lift_alike (put_cell 0x13) (lock_set_alike h)) h

acts_alike : {m n : Machine} (c : ℕ) → Alike m n → Alike (acts c m) (acts c n)
unfolding acts
acts_alike c h =
    cond_alike (eqb c 0xA4) (λ t. code_asked_alike h) λ t.
    cond_alike (eqb c 0xA5) (λ t. dropped_alike h) λ t.
    cond_alike (eqb c 0xA6) (λ t. lock_command_alike h) (λ t. lift_alike (plain_command c) h)

write_command_alike : {m n : Machine} (c : ℕ) → Alike m n → Alike (write_command c m) (write_command c n)
unfolding write_command
write_command_alike {m} {n} c h =
    let known = understood m.plain.settings c in
    let same : understood n.plain.settings c ≡ known = ap (λ (p : Public). understood p.settings c) (sym h.plain) in
    rw same (acts_alike known (lift_alike (command_written known) (load_cut_alike h)))

-- Kind 4

-- What a try leaves: the public part as it was or with the lock opened, and the same code.
record Tried (m n : Machine) : Type 0 where
  plain : n.plain ≡ cond n.plain.locked m.plain (put_cell 0x14 (with_locked m.plain false))
  code : n.secret.code ≡ m.secret.code

cond_tried : {m x y : Machine} (t : Bool) → Tried m x → Tried m y → Tried m (cond t x y)
cond_tried true one other = one
cond_tried false one other = other

pub put_cell-locked : (k : ℕ) (p : Public) → (put_cell k p).locked ≡ p.locked
unfolding put_cell
put_cell-locked k p = split (eqb (get_or p.ram k 0) 0) (λ t. simp t) (λ t. simp t)

-- the position alone changes, or nothing does
positioned_tried : (k : ℕ) (m : Machine) → m.plain.locked ≡ true → Tried m (positioned k m)
positioned_tried k m locked = record { plain = simp locked; code = refl }

unlocked_tried : (m : Machine) → Tried m (unlocked m)
unlocked_tried m = record { plain = rw (put_cell-locked 0x14 (with_locked m.plain false)); code = refl }

try_tried : (x : ℕ) (m : Machine) → m.plain.locked ≡ true → Tried m (try x m)
unfolding try key_matched
try_tried x m locked =
    let stays : (k : ℕ) → Tried m (positioned k m) = λ k. positioned_tried k m locked in
    cond_tried (ignored x m.plain) (stays m.secret.position) (cond_tried (key_completes _ _ x) (unlocked_tried m) (stays _))

-- a byte that comes while locked
yield_delivered_tried : (x : ℕ) (m : Machine) → m.plain.locked ≡ true → Tried m (yield_delivered (byte x) m)
unfolding yield_delivered byte_delivered
yield_delivered_tried x m locked =
    cond_tried (inhibited m.plain) (positioned_tried m.secret.position m locked)
    (subst (λ (t : Bool). Tried m (cond t (try x m) (lift (put x) m))) (sym locked) (try_tried x m locked))

-- x and y, which alike machines m and n become, are alike if the lock opens in both or in neither
abbrev pub StillAlike : Machine → Machine → Machine → Machine → Type 0
StillAlike m n x y = (m.plain.locked ≡ true → x.plain.locked ≡ y.plain.locked) → Alike x y

tried_alike : {m n x y : Machine} → Alike m n → Tried m x → Tried n y → x.plain.locked ≡ y.plain.locked → Alike x y
tried_alike h s t e =
    record {
      plain = s.plain ∙ (λ i. cond (e i) (h.plain i) (put_cell 0x14 (with_locked (h.plain i) false))) ∙ sym t.plain;
      size = ap length s.code ∙ h.size ∙ sym (ap length t.code);
    }

-- a byte that comes while it is not locked
yield_delivered-put : (x : ℕ) (m : Machine) → m.plain.locked ≡ false → yield_delivered (byte x) m ≡ cond (inhibited m.plain) m (lift (put x) m)
unfolding yield_delivered byte_delivered
yield_delivered-put x m free = ap (λ (t : Bool). cond (inhibited m.plain) m (cond t (try x m) (lift (put x) m))) free

-- bytes that differ only while locked
bytes_alike : {m n : Machine} (x y : ℕ) → (m.plain.locked ≡ false → x ≡ y) → Alike m n → StillAlike m n (yield_delivered (byte x) m) (yield_delivered (byte y) n)
bytes_alike {m} {n} x y same h together =
    let locks : n.plain.locked ≡ m.plain.locked = ap (λ p. p.locked) (sym h.plain) in
    split m.plain.locked
    (λ t. tried_alike h (yield_delivered_tried x m t) (yield_delivered_tried y n (locks ∙ t)) (together t))
    (λ t. rw (yield_delivered-put x m t, yield_delivered-put y n (locks ∙ t), same t) (test_alike inhibited h h (lift_alike (put y) h)))

yield_delivered_alike : {m n : Machine} (y : Yielded) → Alike m n → StillAlike m n (yield_delivered y m) (yield_delivered y n)
unfolding yield_delivered byte_delivered
yield_delivered_alike nothing h together = h
yield_delivered_alike (byte x) h together = bytes_alike x x (λ t. refl) h together

-- what a sound frame does, by what its byte is translated to
abbrev translated_key : Translation → Machine → Machine
translated_key t m = yield_delivered t.yields (lift (breaking t.breaks) (lift (errors_set false false) m))

translated_key_alike : {m n : Machine} (t : Translation) → Alike m n → StillAlike m n (translated_key t m) (translated_key t n)
translated_key_alike t h = yield_delivered_alike t.yields (lift_alike (breaking t.breaks) (lift_alike (errors_set false false) h))

sound_key_alike : {m n : Machine} (b : ℕ) → Alike m n → StillAlike m n (sound_key b m) (sound_key b n)
unfolding sound_key
sound_key_alike {m} {n} b h =
    subst (λ (p : Public). StillAlike m n (sound_key b m) (translated_key (translated b p) n)) h.plain (translated_key_alike (translated b m.plain) h)

damaged_key_alike : {m n : Machine} (t e : Bool) → Alike m n → Alike (damaged_key t e m) (damaged_key t e n)
damaged_key_alike t e h = record { plain = ap (λ p. key_error (breaking false (errors_set t e p))) h.plain; size = h.size }

keyboard_frame_alike : {m n : Machine} (c : Check) → Alike m n → StillAlike m n (keyboard_frame c m) (keyboard_frame c n)
unfolding keyboard_frame
keyboard_frame_alike (sound b) h together = sound_key_alike b h together
keyboard_frame_alike parity h together = damaged_key_alike false true h
keyboard_frame_alike broken h together = damaged_key_alike true false h
keyboard_frame_alike noise h together = h

-- While locked, each byte but F0h is a try.
sound_key-locked : (b : ℕ) (m : Machine) → m.plain.locked ≡ true → (b ≡ 0xF0 → ⊥)
    → sound_key b m ≡ translated_key (record { yields = byte (code (get_or m.plain.settings.table b 0) m.plain.breaks); breaks = false }) m
unfolding sound_key translated
sound_key-locked b m locked other =
    let always : (translates m.plain || m.plain.locked) ≡ true = rw (locked, or-true) in
    ap (λ (t : Translation). translated_key t m) (rw (always, translate-other m.plain.settings.table b m.plain.breaks other))

pub keys_alike : {m n : Machine} (b c : ℕ) → m.plain.locked ≡ true → (b ≡ 0xF0 → ⊥) → (c ≡ 0xF0 → ⊥) → Alike m n
    → StillAlike m n (sound_key b m) (sound_key c n)
keys_alike {m} {n} b c locked ob oc h =
    let locks : n.plain.locked ≡ true = ap (λ p. p.locked) (sym h.plain) ∙ locked in
    rw (sound_key-locked b m locked ob, sound_key-locked c n locks oc)
    (bytes_alike _ _ (λ t. absurd (false≢true (sym t ∙ locked))) (lift_alike (breaking false) (lift_alike (errors_set false false) h)))

-- Any event

pub accept_alike : {m n : Machine} (e : Event) → Alike m n → StillAlike m n (accept m e) (accept n e)
accept_alike {m} {n} e h =
    split (eqb e.kind 4)
    (λ t.
    let k : e.kind ≡ 4 = eqb-true _ _ t in
    rw (accept_keyboard m e k, accept_keyboard n e k) (keyboard_frame_alike (check (value e)) h))
    (λ t together. unfold accept in
    cond_alike (eqb e.kind 0) (λ k. lift_alike emptied h) λ k.
    cond_alike (eqb e.kind 1) (λ k. write_data_alike (value e) h) λ k.
    cond_alike (eqb e.kind 3) (λ k. write_command_alike (value e) h) λ k.
    cond_alike (eqb e.kind 4) (λ k. absurd (false≢true (sym t ∙ k))) λ k.
    cond_alike (eqb e.kind 5) (λ k. lift_alike (mouse_frame (check (value e))) h) λ k.
    cond_alike (eqb e.kind 6) (λ k. lift_alike taken h) λ k.
    cond_alike (eqb e.kind 7) (λ k. lift_alike timed_out h) λ k.
    cond_alike (eqb e.kind 8) (λ k. lift_alike (pinned (value e)) h) (λ k. h))

-- Events that are alike: the same in what a refusal and an answer see of an event.
pub record EventsAlike (e f : Event) : Type 0 where
  pub kind : e.kind ≡ f.kind
  pub high : ltb (limit e.kind) (value e) ≡ ltb (limit f.kind) (value f)
  pub pulse : (p : Public) → pulse p e ≡ pulse p f

refusal_alike : {e f : Event} (p : Public) → EventsAlike e f → refusal p e ≡ refusal p f
unfolding refusal
refusal_alike p s = rw (s.high, s.kind)

reply_alike : {e f : Event} (p q : Public) → EventsAlike e f → reply p e q ≡ reply p f q
unfolding reply
reply_alike p q s = rw (refusal_alike p s, s.pulse p, s.kind)

-- an event that is refused changes neither machine
cond-still : {m n x y : Machine} (t : Bool) → Alike m n → StillAlike m n x y → StillAlike m n (cond t x m) (cond t y n)
cond-still true h accepted together = accepted together
cond-still false h accepted together = h

pub step_alike : {m n : Machine} {e f : Event} → Alike m n → EventsAlike e f → StillAlike m n (accept m e) (accept n f)
    → StillAlike m n (step m e) (step n f)
unfolding step
step_alike {m} {n} {e} {f} h s accepted =
    let refused : refusal m.plain e ≡ refusal n.plain f = refusal_alike m.plain s ∙ ap (λ p. refusal p f) h.plain in
    rw (← refused) (cond-still (eqb (refusal m.plain e) 0) h accepted)

pub answer_alike : {m n : Machine} {e f : Event} → Alike m n → EventsAlike e f → Alike (step m e) (step n f) → answer m e ≡ answer n f
answer_alike {m} {n} {e} {f} h s after = reply_alike m.plain (step m e).plain s ∙ (λ i. reply (h.plain i) f (after.plain i))
