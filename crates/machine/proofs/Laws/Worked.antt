-- Every row of the tables of worked examples holds: the machine of the definitions, run from fresh on the row's events, computes to what
-- the row says. Assumes nothing.
use mathlib.Core.Path.{◌≡◌, refl}
use mathlib.Core.Bool.{true}
use Rattle.translation.specs.Frames.{check, ones, frame}
use Rattle.translation.specs.KeyTable.{built_in, rows}
use Rattle.translation.specs.ScanCodes.{translate, raw}
use Rattle.machine.specs.State.{fresh}
use Rattle.translation.specs.Bits.{nibble}
use Rattle.machine.specs.Lines.{input_port, high_nibble, status, put_cell}
use Rattle.machine.specs.DataPort.{plain_data, load_byte, write_data}
use Rattle.machine.specs.SecondSet.{single_command, second_command}
use Rattle.machine.specs.Commands.{pending_of, load_cut, plain_command, code_asked, lock_command, acts, write_command}
use Rattle.machine.specs.Lock.{end_with, longest, begun}
use Rattle.machine.specs.Devices.{key_error, key_matched, try, byte_delivered, yield_delivered, translated, sound_key, keyboard_frame}
use Rattle.machine.specs.Events.{state_refusal, refusal, accept, step, reply}
use Rattle.machine.specs.Run.{after}
use Rattle.machine.specs.Worked.{holds, all_hold, table, mismatches}

both_tables : (all_hold table ≡ true) × (all_hold mismatches ≡ true)
unfolding check ones frame translate raw built_in rows fresh nibble input_port high_nibble status put_cell
    plain_data load_byte write_data pending_of load_cut plain_command second_command single_command code_asked lock_command acts write_command
    key_error end_with longest begun key_matched try byte_delivered yield_delivered translated sound_key keyboard_frame
    state_refusal refusal accept step reply after holds all_hold table mismatches
both_tables = (refl, refl)

pub worked : all_hold table ≡ true
worked = both_tables.0

pub worked_mismatches : all_hold mismatches ≡ true
worked_mismatches = both_tables.1
