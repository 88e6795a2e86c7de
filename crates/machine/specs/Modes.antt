-- Document 02, W3 and W6: what is true of the modes and the command sets. In PS/2 mode with the first set each rule that looks at mode or set is
-- document 01's, and what AT mode and the second set add to the state stays as it is. A machine started in AT mode never has what that mode leaves
-- out, and one started with the second set never has a lock code.
use Rattle.std.specs.Prelude.{ℕ, ◌+◌, ◌*◌, ◌%◌, [], ◌≡◌, Bool, true, false, cond, not, ◌&&◌, leb}
use Rattle.translation.specs.Bits.{has, nibble}
use Rattle.machine.specs.State.{Public, Machine, with_errors, with_ports, with_low_latches, lift}
use Rattle.machine.specs.Lines.{put, input_port, key_switch, input_full, keyboard_off, mouse_off, keyboard_request, mouse_request}
use Rattle.machine.specs.Lines.{high_nibble, output_port}
use Rattle.machine.specs.DataPort.{latched}
use Rattle.machine.specs.SecondSet.{second_only, second_command}
use Rattle.machine.specs.Commands.{command_written, load_cut, polled, has_code, code_asked, acts, write_command, test_inputs, pulse_of}
use Rattle.machine.specs.Devices.{errors_set, not_taken}
use Rattle.machine.specs.Events.{is_write, is_frame, ends_sending, cannot_receive, state_refusal}

pub record Ps2Rules (m : Machine) : Type 0 where
  -- P1, the status' bits 4-7, and P2
  pub pins : input_port m.plain ≡ m.plain.ports.pins
  pub status : high_nibble m.plain ≡
      cond m.plain.host.overlay (m.plain.host.nibble % 16)
      (nibble (key_switch m.plain) (m.plain.output.full && m.plain.output.mouse) m.plain.errors.terr m.plain.errors.perr)
  pub port : output_port m.plain ≡
      nibble m.plain.ports.p20 m.plain.ports.p21 false (mouse_off m.plain)
      + 16 * nibble (keyboard_request m.plain) (mouse_request m.plain) (keyboard_off m.plain) false
  -- every command acts as itself, and those of the second set do nothing; it has no others
  pub command : (c : ℕ) → second_only c ≡ false → write_command c m ≡ acts c (lift (command_written c) (load_cut m))
  pub unknown : (c : ℕ) → second_only c ≡ true → write_command c m ≡ lift (command_written 0) (load_cut m)
  pub own : (c : ℕ) → second_only c ≡ false → second_command c m.plain ≡ m.plain
  -- A4h, C1h and C2h, D1h, E0h, F0h-FFh
  pub asked : code_asked m ≡ cond (has_code m) (lift (put 0xFA) m) (lift (put 0xF1) m)
  pub overlays : (n : ℕ) → polled n m.plain ≡ n
  pub latches : (v : ℕ) → latched v m.plain ≡
      with_ports m.plain (with_low_latches m.plain.ports (has v 0) (has v 1))
  pub inputs : test_inputs m.plain ≡ nibble (not (keyboard_off m.plain)) (not (mouse_off m.plain)) false false
  pub pulses : (c : ℕ) → pulse_of m.plain.settings c ≡ cond (leb 0xF0 c) (nibble (not (has c 0)) (not (has c 1)) false false) 0
  -- TERR and PERR after a frame or a byte that was taken, and after one that was not
  pub errors : (t e : Bool) → errors_set t e m.plain ≡ with_errors m.plain (record { terr = t; perr = e; ttim = m.plain.errors.ttim })
  pub timeout : not_taken m.plain ≡ with_errors m.plain (record { terr = true; perr = false; ttim = m.plain.errors.ttim })
  -- checks 3 to 6
  pub checks : (k : ℕ) → state_refusal m.plain k ≡
      cond (is_write k && input_full m.plain) 3
      (cond (is_write k && m.plain.locked) 4
      (cond (is_frame k && cannot_receive m.plain k) 5 (cond (ends_sending k && not (input_full m.plain)) 6 0)))

-- The pending codes of AT mode: not those of a load, of the output buffer, of a byte to the mouse.
abbrev pub AtCode : ℕ → Type 0
AtCode n = (n ≡ 3 → ⊥) × (n ≡ 5 → ⊥) × (n ≡ 6 → ⊥) × (n ≡ 7 → ⊥)

-- Not locked, no byte from the mouse or for it, no overlay; and no lock code.
pub record AtPublic (p : Public) : Type 0 where
  pub locked : p.locked ≡ false
  pub mouse : p.output.mouse ≡ false
  pub to : p.sending.to ≡ 2 → ⊥
  pub overlay : p.host.overlay ≡ false
  pub pending : AtCode p.host.pending

pub record AtMachine (m : Machine) : Type 0 where
  pub plain : AtPublic m.plain
  pub code : m.secret.code ≡ []

-- With the second command set: no lock code is being loaded, there is none, and it is not locked.
pub record SecondPublic (p : Public) : Type 0 where
  pub load : p.host.pending ≡ 3 → ⊥
  pub locked : p.locked ≡ false

pub record SecondMachine (m : Machine) : Type 0 where
  pub plain : SecondPublic m.plain
  pub code : m.secret.code ≡ []
