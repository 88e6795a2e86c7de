-- "State and lines", the state. What the host and the devices can learn of is public; the lock code and how far it has been typed are secret.
use Rattle.std.specs.Prelude.{ℕ, Bool, true, false, List, [], ◌∷◌, replicate}
use Rattle.machine.specs.Settings.{Settings}

-- The output buffer: its byte, output buffer full (OBF), and whether the byte came from the mouse; with OBF 0 the source is the keyboard.
pub record Output : Type 0 where
  pub byte : ℕ
  pub full : Bool
  pub mouse : Bool

-- The error bits: TERR, a broken frame or a byte that was not taken, and PERR, a parity error. In AT mode TERR is the data sheets' receive
-- time-out (RTIM), for broken frames alone, and a byte that was not taken is the transmit time-out (TTIM) (document 02, W3).
pub record Errors : Type 0 where
  pub terr : Bool
  pub perr : Bool
  pub ttim : Bool

-- What the host wrote: the command flag C, the pending code, the RAM cell of code 2, and the status overlay.
pub record Host : Type 0 where
  pub command : Bool
  pub pending : ℕ
  pub cell : ℕ
  pub overlay : Bool
  pub nibble : ℕ

-- after a command that leaves this code and this cell: C is 1, and there is no overlay
abbrev pub after_command : ℕ → ℕ → Host
after_command code cell = record { command = true; pending = code; cell = cell; overlay = false; nibble = 0 }

-- one part of it replaced
abbrev pub with_command_flag : Host → Bool → Host
with_command_flag h x = record { command = x; pending = h.pending; cell = h.cell; overlay = h.overlay; nibble = h.nibble }

abbrev pub with_pending : Host → ℕ → ℕ → Host
with_pending h code cell = record { command = h.command; pending = code; cell = cell; overlay = h.overlay; nibble = h.nibble }

abbrev pub with_overlay : Host → ℕ → Host
with_overlay h n = record { command = h.command; pending = h.pending; cell = h.cell; overlay = true; nibble = n }

-- Input port pins P1; the latches of output port lines: P20, P21, and those that AT mode and the second command set have besides; and of the
-- second set (document 02, W6) the latches of P10-P15, in bits 0-5, and whether D1h may write P22 and P23.
pub record Ports : Type 0 where
  pub pins : ℕ
  pub p20 : Bool
  pub p21 : Bool
  pub p22 : Bool
  pub p23 : Bool
  pub p25 : Bool
  pub input_latches : ℕ
  pub high_allowed : Bool

-- one part of them replaced
abbrev pub with_pins : Ports → ℕ → Ports
with_pins q x = record { pins = x; p20 = q.p20; p21 = q.p21; p22 = q.p22; p23 = q.p23; p25 = q.p25; input_latches = q.input_latches; high_allowed = q.high_allowed }

abbrev pub with_low_latches : Ports → Bool → Bool → Ports
with_low_latches q a b = record { pins = q.pins; p20 = a; p21 = b; p22 = q.p22; p23 = q.p23; p25 = q.p25; input_latches = q.input_latches; high_allowed = q.high_allowed }

abbrev pub with_high_latches : Ports → Bool → Bool → Bool → Ports
with_high_latches q a b c = record { pins = q.pins; p20 = q.p20; p21 = q.p21; p22 = a; p23 = b; p25 = c; input_latches = q.input_latches; high_allowed = q.high_allowed }

abbrev pub with_input_latches : Ports → ℕ → Ports
with_input_latches q x = record { pins = q.pins; p20 = q.p20; p21 = q.p21; p22 = q.p22; p23 = q.p23; p25 = q.p25; input_latches = x; high_allowed = q.high_allowed }

abbrev pub with_high_allowed : Ports → Bool → Ports
with_high_allowed q x = record { pins = q.pins; p20 = q.p20; p21 = q.p21; p22 = q.p22; p23 = q.p23; p25 = q.p25; input_latches = q.input_latches; high_allowed = x }

-- The transmitter: whom a byte is being sent to (0 nobody, 1 keyboard, 2 mouse), and the byte.
pub record Sending : Type 0 where
  pub to : ℕ
  pub byte : ℕ

-- `breaks` is the break flag of the scan code translation. Cell 0 of the RAM is the mode byte, the field's command byte. The settings are those of
-- the start.
pub record Public : Type 0 where
  pub output : Output
  pub errors : Errors
  pub host : Host
  pub ports : Ports
  pub sending : Sending
  pub breaks : Bool
  pub locked : Bool
  pub ram : List ℕ
  pub settings : Settings

-- The lock code, the paper's password, and the position: how many of its first bytes the keys counted end with (document 02, W5).
pub record Secret : Type 0 where
  pub code : List ℕ
  pub position : ℕ

pub record Machine : Type 0 where
  pub plain : Public
  pub secret : Secret

-- one part replaced
abbrev pub with_output : Public → Output → Public
with_output p x = record { output = x; errors = p.errors; host = p.host; ports = p.ports; sending = p.sending; breaks = p.breaks; locked = p.locked; ram = p.ram; settings = p.settings }

abbrev pub with_errors : Public → Errors → Public
with_errors p x = record { output = p.output; errors = x; host = p.host; ports = p.ports; sending = p.sending; breaks = p.breaks; locked = p.locked; ram = p.ram; settings = p.settings }

abbrev pub with_host : Public → Host → Public
with_host p x = record { output = p.output; errors = p.errors; host = x; ports = p.ports; sending = p.sending; breaks = p.breaks; locked = p.locked; ram = p.ram; settings = p.settings }

abbrev pub with_ports : Public → Ports → Public
with_ports p x = record { output = p.output; errors = p.errors; host = p.host; ports = x; sending = p.sending; breaks = p.breaks; locked = p.locked; ram = p.ram; settings = p.settings }

abbrev pub with_sending : Public → Sending → Public
with_sending p x = record { output = p.output; errors = p.errors; host = p.host; ports = p.ports; sending = x; breaks = p.breaks; locked = p.locked; ram = p.ram; settings = p.settings }

abbrev pub with_breaks : Public → Bool → Public
with_breaks p x = record { output = p.output; errors = p.errors; host = p.host; ports = p.ports; sending = p.sending; breaks = x; locked = p.locked; ram = p.ram; settings = p.settings }

abbrev pub with_locked : Public → Bool → Public
with_locked p x = record { output = p.output; errors = p.errors; host = p.host; ports = p.ports; sending = p.sending; breaks = p.breaks; locked = x; ram = p.ram; settings = p.settings }

abbrev pub with_ram : Public → List ℕ → Public
with_ram p x = record { output = p.output; errors = p.errors; host = p.host; ports = p.ports; sending = p.sending; breaks = p.breaks; locked = p.locked; ram = x; settings = p.settings }

-- a rule of the public part, said of the whole machine
abbrev pub lift : (Public → Public) → Machine → Machine
lift f m = record { plain = f m.plain; secret = m.secret }

abbrev pub with_secret : Machine → Secret → Machine
with_secret m x = record { plain = m.plain; secret = x }

-- Fresh, as a start with these settings leaves it: P1 FFh, the latches of P20-P23 and P10-P15 1, the mode byte 70h, all else 0 or none.
unfoldable pub fresh : Settings → Machine
fresh x =
    record {
      plain = record {
        output = record { byte = 0; full = false; mouse = false };
        errors = record { terr = false; perr = false; ttim = false };
        host = record { command = false; pending = 0; cell = 0; overlay = false; nibble = 0 };
        ports = record {
          pins = 0xFF;
          p20 = true;
          p21 = true;
          p22 = true;
          p23 = true;
          p25 = false;
          input_latches = 0x3F;
          high_allowed = false;
        };
        sending = record { to = 0; byte = 0 };
        breaks = false;
        locked = false;
        ram = 0x70 ∷ replicate 31 0;
        settings = x;
      };
      secret = record { code = []; position = 0 };
    }
