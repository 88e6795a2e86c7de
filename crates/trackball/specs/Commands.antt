-- Document 02, W8: the bytes that a host sends to the trackball. None is an argument to the one before.
use Rattle.std.specs.Prelude.{ℕ, true, false, cond, ◌||◌, List, [], ◌∷◌, eqb}
use Rattle.trackball.specs.Trackball.{Mouse, with_reporting, without_movement}
use Rattle.trackball.specs.Packets.{packet}

-- What it gives. FAh is the field's acknowledge, FEh its resend, AAh a passed self-test and 00h the device number of a mouse.
-- EBh reads a packet, enabled or not; F2h asks for the device number; F4h and F5h enable and disable reporting; FFh resets.
unfoldable pub reply_bytes : ℕ → Mouse → List ℕ
reply_bytes b m =
    cond (eqb b 0xEB) (0xFA ∷ packet m)
    (cond (eqb b 0xF2) (0xFA ∷ 0x00 ∷ [])
    (cond (eqb b 0xF4 || eqb b 0xF5) (0xFA ∷ [])
    (cond (eqb b 0xFF) (0xFA ∷ 0xAA ∷ 0x00 ∷ []) (0xFE ∷ []))))

-- What it does. A reset leaves no movement and disables; F2h and a byte that gives FEh change nothing.
unfoldable pub received : ℕ → Mouse → Mouse
received b m =
    cond (eqb b 0xEB) (without_movement m)
    (cond (eqb b 0xF4) (with_reporting true m)
    (cond (eqb b 0xF5) (with_reporting false m)
    (cond (eqb b 0xFF) (without_movement (with_reporting false m)) m)))
