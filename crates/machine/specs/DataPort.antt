-- "Events", kind 1, and "Commands": what a byte written to port 60h does under each pending code.
use Rattle.std.specs.Prelude.{ℕ, ◌%◌, Bool, false, cond, [], ◌∷◌, ◌++◌, length, set, eqb, leb}
use Rattle.translation.specs.Bits.{has}
use Rattle.machine.specs.State.{Public, Machine, with_host, with_ports, with_ram, with_sending, lift, with_secret}
use Rattle.machine.specs.State.{with_pending, with_command_flag, with_low_latches, with_high_latches}
use Rattle.machine.specs.Lines.{at_mode, second_set, put, put_mouse, with_mode, keyboard_enabled}

-- no pending code
abbrev pub settled : Public → Public
settled p = with_host p (with_pending p.host 0 0)

-- C becomes 0
abbrev pub data_written : Public → Public
data_written p = with_host p (with_command_flag p.host false)

-- a byte handed to the transmitter
abbrev pub send : ℕ → ℕ → Public → Public
send to v p = with_sending p (record { to = to; byte = v })

-- code 0: sent to the keyboard, which is no longer off
abbrev pub send_keyboard : ℕ → Public → Public
send_keyboard v p = send 1 v (keyboard_enabled p)

-- the latches of P20 and P21
abbrev pub low_latched : Bool → Bool → Public → Public
low_latched a b p = with_ports p (with_low_latches p.ports a b)

-- those of P22, P23 and P25
abbrev pub high_latched : Bool → Bool → Bool → Public → Public
high_latched a b c p = with_ports p (with_high_latches p.ports a b c)

-- D1h may write P22 and P23: with the second command set while C8h allows it (document 02, W6), with the first in AT mode.
abbrev pub high_writable : Public → Bool
high_writable p = cond (second_set p) p.ports.high_allowed (at_mode p)

-- Code 4: bits 0 and 1 to the latches; bits 2 and 3 as well where they may be written, in AT mode also bit 5 (document 02, W3).
abbrev pub latched : ℕ → Public → Public
latched v p =
    let q = p.ports in
    high_latched (cond (high_writable p) (has v 2) q.p22) (cond (high_writable p) (has v 3) q.p23) (cond (at_mode p) (has v 5) q.p25)
    (low_latched (has v 0) (has v 1) p)

-- code 2: to the cell that the command named
abbrev pub cell_written : ℕ → Public → Public
cell_written v p = with_ram p (set p.ram p.host.cell v)

-- What a data byte does under each pending code but 3. Code 1 writes the mode byte, less bit 7; 5 and 6 put; 7 sends to the mouse.
unfoldable pub plain_data : ℕ → Public → Public
plain_data v p =
    cond (eqb p.host.pending 1) (with_mode (v % 0x80) p)
    (cond (eqb p.host.pending 2) (cell_written v p)
    (cond (eqb p.host.pending 4) (latched v p)
    (cond (eqb p.host.pending 5) (put v p)
    (cond (eqb p.host.pending 6) (put_mouse v p)
    (cond (eqb p.host.pending 7) (send 2 v p) (send_keyboard v p))))))

-- no lock code
abbrev pub dropped : Machine → Machine
dropped m = with_secret m (record { code = []; position = m.secret.position })

abbrev pub appended : ℕ → Machine → Machine
appended v m = with_secret m (record { code = m.secret.code ++ (v ∷ []); position = m.secret.position })

-- the code has its sixteen bytes
abbrev pub code_full : Machine → Bool
code_full m = leb 16 (length m.secret.code)

-- Code 3, a load: bytes are appended until 00h ends it; a 17th ends it with no code.
unfoldable pub load_byte : ℕ → Machine → Machine
load_byte v m =
    cond (eqb v 0) (lift settled m)
    (cond (code_full m) (dropped (lift settled m)) (appended v m))

-- Kind 1: C is 0, the pending code says what the byte does, and then is none, except during a load.
unfoldable pub write_data : ℕ → Machine → Machine
write_data v m =
    cond (eqb m.plain.host.pending 3) (load_byte v (lift data_written m))
    (lift settled (lift (plain_data v) (lift data_written m)))
