-- "Saved image", a save: check 9, and the bytes that the caller lent.
use Rattle.std.specs.Prelude.{ℕ, List, take}
use Rattle.machine.specs.State.{Machine}
use Rattle.image_bytes.specs.Layout.{body_length, image_length, sealed}
use Rattle.image_bytes.specs.Seal.{space_refusal, image_written}
use Rattle.image.specs.Image.{image}

-- Check 9: under 72 bytes of space.
abbrev pub save_refusal : List ℕ → ℕ
save_refusal space = space_refusal image_length space

-- the space after the save of a state's bytes, whatever they are, and of a machine; version byte and key table are not saved
abbrev pub saved_bytes : List ℕ → List ℕ → List ℕ
saved_bytes s space = image_written (sealed 2 (take body_length s)) space

abbrev pub saved : Machine → List ℕ → List ℕ
saved m space = image_written (image m) space
