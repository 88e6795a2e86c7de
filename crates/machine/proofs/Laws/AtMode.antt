-- In AT mode nothing that its start left out comes up: no lock code, no byte from the mouse or for it, no overlay.
-- Assumes nothing.
use Prim.Native.Nat.{ℕ, ◌%◌}
use mathlib.Core.Path.{◌≡◌, refl, ap, ◌∙◌}
use mathlib.Core.Bool.{Bool, true, false, ◌||◌}
use mathlib.Core.List.{List, [], ◌∷◌}
use native.Mathlib.Omega.{arith}
use lib.Dec.{eqb, ltb}
use borrow.Author.Tests.{eqb-true}
use Rattle.translation.specs.Frames.{Check, sound, parity, broken, noise, check}
use Rattle.translation.specs.ScanCodes.{Yielded, nothing, byte}
use Rattle.machine.specs.Settings.{Settings}
use Rattle.machine.specs.State.{Output, Errors, Host, Ports, Sending, Public, Machine, fresh, lift}
use Rattle.machine.specs.State.{with_output, with_errors, with_host, with_ports, with_sending, with_breaks, with_ram}
use Rattle.translation.specs.Bits.{within}
use Rattle.machine.specs.Lines.{at_mode, inhibited, put}
use Rattle.machine.specs.DataPort.{data_written, dropped, plain_data, write_data}
use Rattle.machine.specs.SecondSet.{line_written, single_command, second_command}
use Rattle.machine.specs.Commands.{ps2_only, understood, pending_of, command_written, load_cut, plain_command, acts, write_command}
use Rattle.machine.specs.Devices.{key_error, yield_delivered, byte_delivered, sound_key, keyboard_frame, taken, timed_out, pinned}
use Rattle.machine.specs.Events.{Event, value, refusal, emptied, accept, step}
use Rattle.machine.specs.Run.{after}
use Rattle.machine.specs.Modes.{AtCode, AtPublic, AtMachine}
use Rattle.machine.proofs.Laws.Cond.{cond-holds, cond_both, not_both, and_false}
use Rattle.machine.proofs.Laws.Commands.{understood-known}
use Rattle.machine.proofs.Laws.Events.{accepted}
use Rattle.machine.proofs.Laws.Settings.{fresh-settings, step-settings}

-- ---- ps2_only
-- what is understood in AT mode is no command of PS/2 mode alone
never : (c : ℕ) → ps2_only c ≡ false → (k : ℕ) → ps2_only k ≡ true → eqb c k ≡ true → ⊥
never c known k only e = not_both (ap ps2_only (eqb-true c k e) ∙ only) known

-- ---- pending_of
pending_of-at : (c : ℕ) → ps2_only c ≡ false → AtCode (pending_of c)
unfolding pending_of
pending_of-at c known =
    cond_both AtCode (eqb c 0x60) (omega arith)
    (cond_both AtCode (within 0x61 0x7F c) (omega arith)
    (cond-holds AtCode (eqb c 0xA5) (λ e. absurd (never c known 0xA5 refl e)) λ _.
    cond_both AtCode (eqb c 0xD1) (omega arith)
    (cond-holds AtCode (eqb c 0xD2) (λ e. absurd (never c known 0xD2 refl e)) λ _.
    cond-holds AtCode (eqb c 0xD3) (λ e. absurd (never c known 0xD3 refl e)) λ _.
    cond-holds AtCode (eqb c 0xD4) (λ e. absurd (never c known 0xD4 refl e)) λ _. omega arith)))

-- ---- one part of the public part replaced
module _ {p : Public} (a : AtPublic p) where
  with_output-at : (o : Output) → o.mouse ≡ false → AtPublic (with_output p o)
  with_output-at o none = record { locked = a.locked; mouse = none; to = a.to; overlay = a.overlay; pending = a.pending }

  with_errors-at : (x : Errors) → AtPublic (with_errors p x)
  with_errors-at x = record { locked = a.locked; mouse = a.mouse; to = a.to; overlay = a.overlay; pending = a.pending }

  with_host-at : (h : Host) → h.overlay ≡ false → AtCode h.pending → AtPublic (with_host p h)
  with_host-at h none code = record { locked = a.locked; mouse = a.mouse; to = a.to; overlay = none; pending = code }

  with_ports-at : (x : Ports) → AtPublic (with_ports p x)
  with_ports-at x = record { locked = a.locked; mouse = a.mouse; to = a.to; overlay = a.overlay; pending = a.pending }

  with_sending-at : (x : Sending) → (x.to ≡ 2 → ⊥) → AtPublic (with_sending p x)
  with_sending-at x other = record { locked = a.locked; mouse = a.mouse; to = other; overlay = a.overlay; pending = a.pending }

  with_breaks-at : (b : Bool) → AtPublic (with_breaks p b)
  with_breaks-at b = record { locked = a.locked; mouse = a.mouse; to = a.to; overlay = a.overlay; pending = a.pending }

  with_ram-at : (r : List ℕ) → AtPublic (with_ram p r)
  with_ram-at r = record { locked = a.locked; mouse = a.mouse; to = a.to; overlay = a.overlay; pending = a.pending }

  put-at : (b : ℕ) → AtPublic (put b p)
  put-at b = with_output-at _ refl

-- ---- rules of the public part
module _ {p : Public} (a : AtPublic p) where
  plain_data-at : (v : ℕ) → AtPublic (plain_data v p)
  unfolding plain_data
  plain_data-at v =
      let code = p.host.pending in
      cond_both AtPublic (eqb code 1) (with_ram-at a _)
      (cond_both AtPublic (eqb code 2) (with_ram-at a _)
      (cond_both AtPublic (eqb code 4) (with_ports-at a _)
      (cond_both AtPublic (eqb code 5) (put-at a v)
      (cond-holds AtPublic (eqb code 6) (λ e. absurd (a.pending.2 (eqb-true code 6 e))) λ _.
      cond-holds AtPublic (eqb code 7) (λ e. absurd (a.pending.3 (eqb-true code 7 e))) λ _.
      with_sending-at (with_ram-at a _) _ (omega arith)))))

  second_command-at : (c : ℕ) → AtPublic (second_command c p)
  unfolding second_command line_written single_command
  second_command-at c =
      let k = c % 8 in
      cond_both AtPublic (within 0x90 0x9F c) (with_ports-at a _)
      (cond_both AtPublic (within 0xB0 0xBF c)
      (cond_both AtPublic (ltb k 4) (with_ports-at a _)
      (cond_both AtPublic (eqb k 4) (with_ports-at a _) (cond_both AtPublic (eqb k 5) (with_ports-at a _) (with_ports-at a _))))
      (cond_both AtPublic (within 0xE1 0xEF c) (with_ports-at a _)
      (cond_both AtPublic (eqb c 0xA1) (put-at a _)
      (cond_both AtPublic (eqb c 0xAF) (put-at a _)
      (cond_both AtPublic (eqb c 0xC8) (with_ports-at a _)
      (cond_both AtPublic (eqb c 0xC9) (with_ports-at a _) (cond_both AtPublic (eqb c 0xCA) (put-at a _) a)))))))

  plain_command-at : (c : ℕ) → ps2_only c ≡ false → AtPublic (plain_command c p)
  unfolding plain_command
  plain_command-at c known =
      cond_both AtPublic (within 0x20 0x3F c) (put-at a _)
      (cond_both AtPublic (eqb c 0xA7) (with_ram-at a _)
      (cond_both AtPublic (eqb c 0xA8) (with_ram-at a _)
      (cond_both AtPublic (eqb c 0xA9) (put-at a 0)
      (cond_both AtPublic (eqb c 0xAA) (put-at (with_ram-at a _) 0x55)
      (cond_both AtPublic (eqb c 0xAB) (put-at a 0)
      (cond_both AtPublic (eqb c 0xAD) (with_ram-at a _)
      (cond_both AtPublic (eqb c 0xAE) (with_ram-at a _)
      (cond_both AtPublic (eqb c 0xC0) (put-at a _)
      (cond-holds AtPublic (eqb c 0xC1) (λ e. absurd (never c known 0xC1 refl e)) λ _.
      cond-holds AtPublic (eqb c 0xC2) (λ e. absurd (never c known 0xC2 refl e)) λ _.
      cond_both AtPublic (eqb c 0xD0) (put-at a _)
      (cond_both AtPublic (eqb c 0xE0) (put-at a _) (second_command-at c)))))))))))

  key_error-at : AtPublic (key_error p)
  unfolding key_error
  key_error-at = cond_both AtPublic (p.locked || inhibited p) a (put-at a 0xFF)

  timed_out-at : AtPublic (timed_out p)
  unfolding timed_out
  timed_out-at =
      cond-holds AtPublic (eqb p.sending.to 2) (λ e. absurd (a.to (eqb-true p.sending.to 2 e)))
      (λ _. put-at (with_errors-at (with_sending-at a _ (omega arith)) _) 0xFE)

-- ---- rules of the machine
at-lift : (f : Public → Public) (m : Machine) → AtMachine m → AtPublic (f m.plain) → AtMachine (lift f m)
at-lift f m a plain = record { plain = plain; code = a.code }

at-dropped : (m : Machine) → AtMachine m → AtMachine (dropped m)
at-dropped m a = record { plain = a.plain; code = refl }

module _ (m : Machine) (a : AtMachine m) where
  write_data-at : (v : ℕ) → AtMachine (write_data v m)
  unfolding write_data
  write_data-at v =
      let written : AtPublic (data_written m.plain) = with_host-at a.plain _ a.plain.overlay a.plain.pending in
      let done : AtPublic (plain_data v (data_written m.plain)) = plain_data-at written v in
      cond-holds AtMachine (eqb m.plain.host.pending 3) (λ e. absurd (a.plain.pending.0 (eqb-true m.plain.host.pending 3 e)))
      (λ _. record { plain = with_host-at done _ done.overlay (omega arith); code = a.code })

  load_cut-at : AtMachine (load_cut m)
  unfolding load_cut
  load_cut-at = cond_both AtMachine (eqb m.plain.host.pending 3) (at-dropped m a) a

  acts-at : (c : ℕ) → ps2_only c ≡ false → AtMachine (acts c m)
  unfolding acts
  acts-at c known =
      cond-holds AtMachine (eqb c 0xA4) (λ e. absurd (never c known 0xA4 refl e)) λ _.
      cond-holds AtMachine (eqb c 0xA5) (λ e. absurd (never c known 0xA5 refl e)) λ _.
      cond-holds AtMachine (eqb c 0xA6) (λ e. absurd (never c known 0xA6 refl e)) λ _.
      at-lift (plain_command c) m a (plain_command-at a.plain c known)

  yield_delivered-at : (y : Yielded) → AtMachine (yield_delivered y m)
  unfolding yield_delivered byte_delivered
  yield_delivered-at nothing = a
  yield_delivered-at (byte x) =
      cond_both AtMachine (inhibited m.plain) a
      (cond-holds AtMachine m.plain.locked (λ l. not_both l a.plain.locked) (λ _. at-lift (put x) m a (put-at a.plain x)))

write_command-at : (m : Machine) → AtMachine m → at_mode m.plain ≡ true → (c : ℕ) → AtMachine (write_command c m)
unfolding write_command
write_command-at m a at' c =
    let known = understood m.plain.settings c in
    let one : ps2_only known ≡ false = (understood-known m.plain.settings c).mode at' in
    let cut : AtMachine (load_cut m) = load_cut-at m a in
    let written : AtMachine (lift (command_written known) (load_cut m)) =
    at-lift (command_written known) (load_cut m) cut (with_host-at cut.plain _ refl (pending_of-at known one)) in
    acts-at (lift (command_written known) (load_cut m)) written known one

keyboard_frame-at : (c : Check) (m : Machine) → AtMachine m → AtMachine (keyboard_frame c m)
unfolding keyboard_frame sound_key
keyboard_frame-at (sound b) m a =
    yield_delivered-at _ (record { plain = with_breaks-at (with_errors-at a.plain _) _; code = a.code }) _
keyboard_frame-at parity m a = record { plain = key_error-at (with_breaks-at (with_errors-at a.plain _) false); code = a.code }
keyboard_frame-at broken m a = record { plain = key_error-at (with_breaks-at (with_errors-at a.plain _) false); code = a.code }
keyboard_frame-at noise m a = a

-- ---- accept, step, after
accept-at : (m : Machine) (e : Event) → AtMachine m → at_mode m.plain ≡ true → refusal m.plain e ≡ 0 → AtMachine (accept m e)
unfolding accept
accept-at m e a at' free =
    let p = a.plain in
    cond_both AtMachine (eqb e.kind 0) (at-lift emptied m a (with_output-at p _ refl))
    (cond_both AtMachine (eqb e.kind 1) (write_data-at m a (value e))
    (cond_both AtMachine (eqb e.kind 3) (write_command-at m a at' (value e))
    (cond_both AtMachine (eqb e.kind 4) (keyboard_frame-at (check (value e)) m a)
    (cond-holds AtMachine (eqb e.kind 5) (λ k. not_both at' (and_false _ _ (accepted m.plain e free).absent k)) λ _.
    cond_both AtMachine (eqb e.kind 6) (at-lift taken m a (with_errors-at (with_sending-at p _ (omega arith)) _))
    (cond_both AtMachine (eqb e.kind 7) (at-lift timed_out m a (timed_out-at p))
    (cond_both AtMachine (eqb e.kind 8) (at-lift (pinned (value e)) m a (with_ports-at p _)) a))))))

step-at : (m : Machine) (e : Event) → AtMachine m → at_mode m.plain ≡ true → AtMachine (step m e)
unfolding step
step-at m e a at' =
    cond-holds AtMachine (eqb (refusal m.plain e) 0) (λ free. accept-at m e a at' (eqb-true (refusal m.plain e) 0 free)) λ _. a

after-at : (m : Machine) (es : List Event) → AtMachine m → at_mode m.plain ≡ true → AtMachine (after m es)
unfolding after
after-at m [] a at' = a
after-at m (e ∷ es) a at' =
    after-at (step m e) es (step-at m e a at') (ap (λ (x : Settings). x.at_mode) (step-settings m e) ∙ at')

fresh_at : (x : Settings) → AtMachine (fresh x)
unfolding fresh
fresh_at x =
    record { plain = record { locked = refl; mouse = refl; to = omega arith; overlay = refl; pending = omega arith }; code = refl }

pub at-run : (x : Settings) → x.at_mode ≡ true → (es : List Event) → AtMachine (after (fresh x) es)
at-run x at' es = after-at (fresh x) es (fresh_at x) (ap (λ (y : Settings). y.at_mode) (fresh-settings x) ∙ at')
