-- "Saved image", what stands around a body: the trailer behind it, and how long the parts are.
use Rattle.std.specs.Prelude.{ℕ, ◌+◌, List, [], ◌∷◌, ◌++◌, length}
use Rattle.image_bytes.specs.declared.edition.Edition.TheVariants.{First, Second}
use Rattle.image_bytes.specs.Edition.{size}
use Rattle.image_bytes.specs.Sum.{low_byte, high_byte, word_sum}

-- How many bytes a body of edition 1 has, and one of edition 2, which a save writes (document 02, W9).
abbrev pub first_length : ℕ
first_length = size First

abbrev pub body_length : ℕ
body_length = size Second

-- a trailer, and the image that a save writes
abbrev pub trailer_length : ℕ
trailer_length = 8

abbrev pub image_length : ℕ
image_length = body_length + trailer_length

-- The trailer of a body: distance back to the body, sum, both low first; edition; 4B 42 43.
unfoldable pub trailer : ℕ → List ℕ → List ℕ
trailer edition b =
    low_byte (length b) ∷ high_byte (length b) ∷ low_byte (word_sum b) ∷ high_byte (word_sum b) ∷ edition ∷ 0x4B ∷ 0x42 ∷ 0x43 ∷ []

-- a body with its trailer behind it
unfoldable pub sealed : ℕ → List ℕ → List ℕ
sealed edition b = b ++ trailer edition b
