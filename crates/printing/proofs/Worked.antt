-- The paper's worked case, "Answers and the printing program": the page of its list is the text printed there.
-- Assumes nothing.
use Prim.Native.Nat.{ℕ}
use mathlib.Core.Path.{◌≡◌, refl}
use mathlib.Core.List.{List, [], ◌∷◌, ◌++◌}
use Rattle.machine.specs.Settings.{ordinary}
use Rattle.machine.specs.State.{fresh}
use Rattle.machine.specs.Run.{events, answers, length_refusal}
use Rattle.machine.specs.Events.{state_refusal, refusal, accept, step, reply, lines as levels}
use Rattle.machine.specs.Commands.{pending_of, load_cut, plain_command, acts, write_command, pulse_of}
use Rattle.translation.specs.Bits.{nibble}
use Rattle.machine.specs.Lines.{input_port, high_nibble, status, output_port, put_cell}
use Rattle.printing.specs.Hex.{hex_digit, hex_byte}
use Rattle.printing.specs.Lines.{spaced, line, lines}
use Rattle.printing.specs.Page.{header, refused_length, answered, page}

-- rf rd old st p2 pu to fl fh
abbrev head : List ℕ
head =
    114 ∷ 102 ∷ 32 ∷ 114 ∷ 100 ∷ 32 ∷ 111 ∷ 108 ∷ 100 ∷ 32 ∷ 115 ∷ 116 ∷ 32 ∷ 112 ∷ 50 ∷ 32 ∷ 112 ∷ 117 ∷ 32
    ∷ 116 ∷ 111 ∷ 32 ∷ 102 ∷ 108 ∷ 32 ∷ 102 ∷ 104 ∷ 10 ∷ []

-- 00 00 00 1D 03 00 00 00 00
abbrev first : List ℕ
first =
    48 ∷ 48 ∷ 32 ∷ 48 ∷ 48 ∷ 32 ∷ 48 ∷ 48 ∷ 32 ∷ 49 ∷ 68 ∷ 32 ∷ 48 ∷ 51 ∷ 32 ∷ 48 ∷ 48 ∷ 32 ∷ 48 ∷ 48 ∷ 32 ∷ 48 ∷ 48 ∷ 32 ∷ 48 ∷ 48 ∷ 10 ∷ []

-- 00 1D 00 1D 03 00 00 00 00
abbrev second : List ℕ
second =
    48 ∷ 48 ∷ 32 ∷ 49 ∷ 68 ∷ 32 ∷ 48 ∷ 48 ∷ 32 ∷ 49 ∷ 68 ∷ 32 ∷ 48 ∷ 51 ∷ 32 ∷ 48 ∷ 48 ∷ 32 ∷ 48 ∷ 48 ∷ 32 ∷ 48 ∷ 48 ∷ 32 ∷ 48 ∷ 48 ∷ 10 ∷ []

-- 00 55 00 1C 03 00 00 00 00
abbrev third : List ℕ
third =
    48 ∷ 48 ∷ 32 ∷ 53 ∷ 53 ∷ 32 ∷ 48 ∷ 48 ∷ 32 ∷ 49 ∷ 67 ∷ 32 ∷ 48 ∷ 51 ∷ 32 ∷ 48 ∷ 48 ∷ 32 ∷ 48 ∷ 48 ∷ 32 ∷ 48 ∷ 48 ∷ 32 ∷ 48 ∷ 48 ∷ 10 ∷ []

-- 00 55 01 1C 03 00 00 00 00
abbrev fourth : List ℕ
fourth =
    48 ∷ 48 ∷ 32 ∷ 53 ∷ 53 ∷ 32 ∷ 48 ∷ 49 ∷ 32 ∷ 49 ∷ 67 ∷ 32 ∷ 48 ∷ 51 ∷ 32 ∷ 48 ∷ 48 ∷ 32 ∷ 48 ∷ 48 ∷ 32 ∷ 48 ∷ 48 ∷ 32 ∷ 48 ∷ 48 ∷ 10 ∷ []

pub page_worked : page ordinary (0x03 ∷ 0xAA ∷ 0 ∷ 0x02 ∷ 0 ∷ 0 ∷ 0 ∷ 0 ∷ 0 ∷ 0 ∷ 0 ∷ 0 ∷ []) ≡ head ++ first ++ second ++ third ++ fourth
unfolding page refused_length length_refusal header answered answers events fresh
    step refusal state_refusal accept write_command acts load_cut pending_of plain_command put_cell pulse_of
    reply levels nibble input_port high_nibble status output_port lines line spaced hex_byte hex_digit
page_worked = refl
