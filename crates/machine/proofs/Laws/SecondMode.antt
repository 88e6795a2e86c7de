-- With the second command set nothing of the lock comes up: no lock code, none being loaded, not locked. No rule but the start of a command writes
-- the pending code, and none but those of the lock locks. Assumes nothing.
use Prim.Native.Nat.{ℕ}
use mathlib.Core.Path.{◌≡◌, refl, ap, sym, ◌∙◌}
use mathlib.Core.Bool.{Bool, true, false, cond, not, ◌&&◌}
use mathlib.Core.List.{List, [], ◌∷◌}
use native.Mathlib.Omega.{arith}
use lib.Dec.{eqb}
use borrow.Author.Tests.{eqb-true}
use Rattle.translation.specs.Frames.{Check, sound, parity, broken, noise, check}
use Rattle.translation.specs.ScanCodes.{Yielded, nothing, byte}
use Rattle.machine.specs.Settings.{Settings}
use Rattle.machine.specs.State.{Public, Machine, fresh, lift}
use Rattle.machine.specs.Lines.{second_set, inhibited, put}
use Rattle.machine.specs.DataPort.{plain_data, write_data}
use Rattle.machine.specs.SecondSet.{line_written, single_command, second_command}
use Rattle.machine.specs.Commands.{first_only, understood, command_written, load_cut, plain_command, has_code, code_asked, acts, write_command}
use Rattle.machine.specs.Devices.{errors_set, breaking, damaged_key, key_error, yield_delivered, byte_delivered, sound_key, keyboard_frame, mouse_put, mouse_frame}
use Rattle.machine.specs.Devices.{taken, timed_out, pinned}
use Rattle.machine.specs.Events.{Event, value, refusal, emptied, accept, step}
use Rattle.machine.specs.Run.{after}
use Rattle.machine.specs.Modes.{SecondMachine}
use Rattle.machine.proofs.Laws.Cond.{cond-holds, cond_both, not_both}
use Rattle.machine.proofs.Laws.Commands.{understood-known}
use Rattle.machine.proofs.Laws.KeptCommands.{pending_of-load}
use Rattle.machine.proofs.Laws.Events.{accept-holds}
use Rattle.machine.proofs.Laws.Settings.{fresh-settings, step-settings}

-- ---- the pending code and the lock, of a rule by cases
abbrev part : Public → ℕ × Bool
part p = (p.host.pending, p.locked)

of_pending : (b : Bool) (p q : Public) → (cond b p q).host.pending ≡ cond b p.host.pending q.host.pending
of_pending true p q = refl
of_pending false p q = refl

of_locked : (b : Bool) (p q : Public) → (cond b p q).locked ≡ cond b p.locked q.locked
of_locked true p q = refl
of_locked false p q = refl

same : {A : Type 0} (b : Bool) (x : A) → cond b x x ≡ x
same true x = refl
same false x = refl

-- ---- rules of the public part
module _ (p : Public) where
  plain_data_part : (v : ℕ) → part (plain_data v p) ≡ part p
  unfolding plain_data
  plain_data_part v = simp (of_pending, of_locked, same)

  second_command_part : (c : ℕ) → part (second_command c p) ≡ part p
  unfolding second_command line_written single_command
  second_command_part c = simp (of_pending, of_locked, same)

  plain_command_part : (c : ℕ) → part (plain_command c p) ≡ part p
  unfolding plain_command
  plain_command_part c =
      let own = second_command_part c in
      simp (of_pending, of_locked, ap (λ (x : ℕ × Bool). x.0) own, ap (λ (x : ℕ × Bool). x.1) own, same)

  key_error_part : part (key_error p) ≡ part p
  unfolding key_error
  key_error_part = simp (of_pending, of_locked, same)

  mouse_put_part : (b : ℕ) → part (mouse_put b p) ≡ part p
  unfolding mouse_put
  mouse_put_part b = simp (of_pending, of_locked, same)

  timed_out_part : part (timed_out p) ≡ part p
  unfolding timed_out
  timed_out_part = simp (of_pending, of_locked, same)

mouse_frame_part : (c : Check) (p : Public) → part (mouse_frame c p) ≡ part p
unfolding mouse_frame
mouse_frame_part (sound b) p = mouse_put_part _ b
mouse_frame_part parity p = mouse_put_part _ 0xFF
mouse_frame_part broken p = mouse_put_part _ 0xFF
mouse_frame_part noise p = refl

-- ---- rules of the machine
second_lift : (f : Public → Public) (m : Machine) → SecondMachine m → part (f m.plain) ≡ part m.plain → SecondMachine (lift f m)
second_lift f m a e =
    record {
      plain = record {
        load = λ loading. a.plain.load (ap (λ (x : ℕ × Bool). x.0) (sym e) ∙ loading);
        locked = ap (λ (x : ℕ × Bool). x.1) e ∙ a.plain.locked;
      };
      code = a.code;
    }

module _ (m : Machine) (a : SecondMachine m) where
  write_data_second : (v : ℕ) → SecondMachine (write_data v m)
  unfolding write_data
  write_data_second v =
      cond-holds SecondMachine (eqb m.plain.host.pending 3) (λ e. absurd (a.plain.load (eqb-true m.plain.host.pending 3 e)))
      (λ _. record { plain = record { load = omega arith; locked = ap (λ (x : ℕ × Bool). x.1) (plain_data_part _ v) ∙ a.plain.locked }; code = a.code })

  load_cut_second : SecondMachine (load_cut m)
  unfolding load_cut
  load_cut_second = cond_both SecondMachine (eqb m.plain.host.pending 3) (record { plain = a.plain; code = refl }) a

  put_second : (b : ℕ) → SecondMachine (lift (put b) m)
  put_second b = second_lift (put b) m a refl

  acts_second : (c : ℕ) → first_only c ≡ false → SecondMachine (acts c m)
  unfolding acts code_asked
  acts_second c known =
      let never : (k : ℕ) → first_only k ≡ true → eqb c k ≡ true → ⊥ = λ k only e. not_both (ap first_only (eqb-true c k e) ∙ only) known in
      cond_both SecondMachine (eqb c 0xA4) (cond_both SecondMachine (has_code m && not (second_set m.plain)) (put_second 0xFA) (put_second 0xF1))
      (cond-holds SecondMachine (eqb c 0xA5) (λ e. absurd (never 0xA5 refl e)) λ _.
      cond-holds SecondMachine (eqb c 0xA6) (λ e. absurd (never 0xA6 refl e)) λ _.
      second_lift (plain_command c) m a (plain_command_part m.plain c))

  yield_delivered_second : (y : Yielded) → SecondMachine (yield_delivered y m)
  unfolding yield_delivered byte_delivered
  yield_delivered_second nothing = a
  yield_delivered_second (byte x) =
      cond_both SecondMachine (inhibited m.plain) a
      (cond-holds SecondMachine m.plain.locked (λ l. not_both l a.plain.locked) (λ _. put_second x))

write_command_second : (m : Machine) → SecondMachine m → second_set m.plain ≡ true → (c : ℕ) → SecondMachine (write_command c m)
unfolding write_command
write_command_second m a second c =
    let known = understood m.plain.settings c in
    let none : first_only known ≡ false = (understood-known m.plain.settings c).first second in
    let cut = load_cut_second m a in
    let written : SecondMachine (lift (command_written known) (load_cut m)) =
    record { plain = record { load = λ e. not_both (ap first_only (pending_of-load known e)) none; locked = cut.plain.locked }; code = cut.code } in
    acts_second (lift (command_written known) (load_cut m)) written known none

damaged_second : (m : Machine) → SecondMachine m → (t e : Bool) → SecondMachine (damaged_key t e m)
damaged_second m a t e =
    let shown = second_lift (λ p. key_error (breaking false (errors_set t e p))) m a (key_error_part _) in
    record { plain = shown.plain; code = shown.code }

keyboard_frame_second : (c : Check) (m : Machine) → SecondMachine m → SecondMachine (keyboard_frame c m)
unfolding keyboard_frame sound_key
keyboard_frame_second (sound b) m a = yield_delivered_second _ (record { plain = record { load = a.plain.load; locked = a.plain.locked }; code = a.code }) _
keyboard_frame_second parity m a = damaged_second m a false true
keyboard_frame_second broken m a = damaged_second m a true false
keyboard_frame_second noise m a = a

-- ---- accept, step, after
accept_second : (m : Machine) (e : Event) → SecondMachine m → second_set m.plain ≡ true → SecondMachine (accept m e)
accept_second m e a second =
    accept-holds m e SecondMachine a (second_lift emptied m a refl) (λ _. write_data_second m a (value e))
    (λ _. write_command_second m a second (value e)) (λ _. keyboard_frame_second (check (value e)) m a)
    (second_lift (mouse_frame (check (value e))) m a (mouse_frame_part (check (value e)) m.plain)) (second_lift taken m a refl)
    (second_lift timed_out m a (timed_out_part m.plain)) (λ _. second_lift (pinned (value e)) m a refl)

step_second : (m : Machine) (e : Event) → SecondMachine m → second_set m.plain ≡ true → SecondMachine (step m e)
unfolding step
step_second m e a second = cond_both SecondMachine (eqb (refusal m.plain e) 0) (accept_second m e a second) a

after_second : (m : Machine) (es : List Event) → SecondMachine m → second_set m.plain ≡ true → SecondMachine (after m es)
unfolding after
after_second m [] a second = a
after_second m (e ∷ es) a second =
    after_second (step m e) es (step_second m e a second) (ap (λ (x : Settings). x.second_set) (step-settings m e) ∙ second)

fresh_second : (x : Settings) → SecondMachine (fresh x)
unfolding fresh
fresh_second x = record { plain = record { load = omega arith; locked = refl }; code = refl }

pub second_run : (x : Settings) → x.second_set ≡ true → (es : List Event) → SecondMachine (after (fresh x) es)
second_run x second es = after_second (fresh x) es (fresh_second x) (ap (λ (y : Settings). y.second_set) (fresh-settings x) ∙ second)
