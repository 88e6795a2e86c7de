-- What document 01 defines of each of the two devices, by the device.
use Rattle.std.specs.Prelude.{ℕ}
use Rattle.machine.specs.State.{Public}
use Rattle.machine.specs.Lines as lines
use Rattle.lines.specs.declared.device.Device.{Device}
use Rattle.lines.specs.declared.device.Device.TheVariants as device

-- the device that a byte is being sent to
abbrev pub number : Device → ℕ
number device.Keyboard = 1
number device.Mouse = 2

-- the bit of the mode byte that is 1 while it is off
abbrev pub off_bit : Device → ℕ
off_bit device.Keyboard = 0x10
off_bit device.Mouse = 0x20

abbrev pub disabled : Device → Public → Public
disabled device.Keyboard = lines.keyboard_disabled
disabled device.Mouse = lines.mouse_disabled

abbrev pub enabled : Device → Public → Public
enabled device.Keyboard = lines.keyboard_enabled
enabled device.Mouse = lines.mouse_enabled

-- a byte of its for the host to read
abbrev pub put_from : Device → ℕ → Public → Public
put_from device.Keyboard = lines.put
put_from device.Mouse = lines.put_mouse
