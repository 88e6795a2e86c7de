-- "Saved image", the body, with the four bytes that document 02's W9 adds: the program's state begins with the bytes that an image holds. Behind them
-- come the version byte and the key table, which are in no image and are given again at a load. One table, read both ways.
use Rattle.std.specs.Prelude.{ℕ, ◌+◌, ◌-◌, ◌*◌, ◌≡◌, Bool, false, List, [], ◌∷◌, ◌++◌, eqb, length, get_or, take, drop, replicate}
use Rattle.translation.specs.Bits.{has, nibble}
use Rattle.machine.specs.Settings.{Settings, settings_of}
use Rattle.machine.specs.State.{Machine, Public}
use Rattle.state.specs.Flags.{flags_of}

-- how many bytes the state has
abbrev pub state_length : ℕ
state_length = 321

-- Byte 1: OBF, mouse source, C, TERR, PERR, break, locked in bits 0-6.
abbrev pub flags : Public → ℕ
flags p =
    nibble p.output.full p.output.mouse p.host.command p.errors.terr
    + 16 * nibble p.errors.perr p.breaks p.locked false

-- Byte 3: P20 and P21 in bits 0 and 1.
abbrev pub latches : Public → ℕ
latches p = nibble p.ports.p20 p.ports.p21 false false

-- Bytes 0-11: output byte, flags, P1, latches, pending, cell for code 2, overlay present, its nibble, destination, byte, code length, position.
abbrev pub head : Machine → List ℕ
head m =
    let p = m.plain in
    p.output.byte
    ∷ flags p
    ∷ p.ports.pins
    ∷ latches p
    ∷ p.host.pending
    ∷ p.host.cell
    ∷ nibble p.host.overlay false false false
    ∷ p.host.nibble
    ∷ p.sending.to
    ∷ p.sending.byte
    ∷ length m.secret.code
    ∷ m.secret.position
    ∷ []

-- Bytes 12-27: the lock code, zeros after.
abbrev pub padded : List ℕ → List ℕ
padded code = code ++ replicate (16 - length code) 0

-- Byte 60: the options, mouse lock in bit 0, AT mode in bit 1, the second command set in bit 2; and in bit 3 whether D1h may write P22 and P23.
abbrev pub options_of : Settings → Bool → ℕ
options_of x allowed = nibble x.mouse_lock x.at_mode x.second_set allowed

-- Byte 62: P22, P23 and P25 in bits 0, 1 and 3.
abbrev pub high_latches : Public → ℕ
high_latches p = nibble p.ports.p22 p.ports.p23 false p.ports.p25

-- Bytes 60-63: the options, the latches of P10-P15, those of P22, P23 and P25, and the transmit time-out in bit 0.
abbrev pub added : Public → List ℕ
added p =
    options_of p.settings p.ports.high_allowed
    ∷ p.ports.input_latches
    ∷ high_latches p
    ∷ nibble p.errors.ttim false false false
    ∷ []

-- The bytes that an image has of a machine; 28-59 are the RAM.
unfoldable pub body : Machine → List ℕ
body m = head m ++ padded m.secret.code ++ m.plain.ram ++ added m.plain

-- What a state has behind them: byte 64 is the version byte, and the key table stands from byte 65 on.
abbrev pub given : ℕ → List ℕ → List ℕ
given version table = version ∷ table

-- The bytes of a machine.
unfoldable pub state_of : Machine → List ℕ
state_of m = body m ++ given m.plain.settings.version m.plain.settings.table

-- byte k
abbrev pub at : List ℕ → ℕ → ℕ
at s k = get_or s k 0

-- The machine that these bytes stand for, whatever they are: the same table, read the other way.
abbrev pub public : List ℕ → Public
public s =
    let flags = flags_of (at s 1) in
    record {
      output = record { byte = at s 0; full = flags.full; mouse = flags.mouse };
      errors = record { terr = flags.terr; perr = flags.perr; ttim = has (at s 63) 0 };
      host = record { command = flags.command; pending = at s 4; cell = at s 5; overlay = eqb (at s 6) 1; nibble = at s 7 };
      ports = record {
        pins = at s 2;
        p20 = has (at s 3) 0;
        p21 = has (at s 3) 1;
        p22 = has (at s 62) 0;
        p23 = has (at s 62) 1;
        p25 = has (at s 62) 3;
        input_latches = at s 61;
        high_allowed = has (at s 60) 3;
      };
      sending = record { to = at s 8; byte = at s 9 };
      breaks = flags.breaks;
      locked = flags.locked;
      ram = at s 28 ∷ take 31 (drop 29 s);
      settings = settings_of (at s 60) (at s 64) (drop 65 s);
    }

-- the lock code's length is byte 10, and its bytes stand from byte 12 on
abbrev pub code_of : List ℕ → List ℕ
code_of s = take (at s 10) (take 16 (drop 12 s))

abbrev pub view : List ℕ → Machine
view s = record { plain = public s; secret = record { code = code_of s; position = at s 11 } }

-- The bytes are exactly those of their machine: unused bits and bytes are 0.
abbrev pub IsState : List ℕ → Type 0
IsState s = s ≡ state_of (view s)
