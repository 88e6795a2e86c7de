-- What decoding a command byte promises.
use Rattle.std.specs.Prelude.{ℕ, ◌≡◌, cond, not, ◌&&◌}
use Rattle.machine.specs.Settings.{Settings}
use Rattle.machine.specs.Commands.{understood, pending_of, cell_named, pulse_of}
use Rattle.decoding.specs.declared.commands.Decoded.{Decoded}

-- A command as the program looks it up: with ordinary settings, PS/2 mode and the first set, the byte itself, else as it is understood.
abbrev pub heard : Settings → ℕ → ℕ
heard x c = cond (not x.at_mode && not x.second_set) c (understood x c)

-- The command, the pending code and the cell that it leaves under the settings of the start, and the lines that the byte pulses.
pub record CommandDecoded (x : Settings) (c : ℕ) (d : Decoded) : Type 0 where
  pub command : d.command ≡ heard x c
  pub pending : d.pending ≡ pending_of (understood x c)
  pub cell : d.cell ≡ cell_named (understood x c)
  pub pulse : d.pulse ≡ pulse_of x c
