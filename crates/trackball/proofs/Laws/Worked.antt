-- The packets at the ends of a sum are those of the table: the definitions compute to them. Assumes nothing.
use mathlib.Core.Path.{◌≡◌, refl}
use Rattle.translation.specs.Bits.{nibble}
use Rattle.trackball.specs.Counters.{held, beyond, stepped, complement}
use Rattle.trackball.specs.Trackball.{moved}
use Rattle.trackball.specs.Packets.{packet}
use Rattle.trackball.specs.Worked.{packets, tabulated, table}

pub worked : packets table ≡ tabulated table
unfolding nibble held beyond stepped complement moved packet packets tabulated table
worked = refl
