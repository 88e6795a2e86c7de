-- "Saved image", the finder: a load takes the last bytes, and check 10 judges their trailer.
use Rattle.std.specs.Prelude.{◌≡◌, ℕ, ◌+◌, ◌-◌, Bool, cond, ◌&&◌, List, length, take, drop, ◌==◌, nat_le, slice_index}
use Rattle.translation.specs.Bits.{word}
use Rattle.image_bytes.specs.Sum.{word_sum}
use Rattle.image_bytes.specs.Layout.{first_length, body_length, trailer_length}

-- the last n bytes
abbrev pub last_bytes : ℕ → List ℕ → List ℕ
last_bytes n bytes = drop (length bytes - n) bytes

abbrev pub trailer_of : List ℕ → List ℕ
trailer_of bytes = last_bytes trailer_length bytes

-- the n bytes before the trailer
abbrev pub body_of : ℕ → List ℕ → List ℕ
body_of n bytes = take n (last_bytes (n + trailer_length) bytes)

-- A trailer's parts: the distance back to the body, the sum, the edition, and the mark.
abbrev pub distance_of : List ℕ → ℕ
distance_of t = word (slice_index t 0) (slice_index t 1)

abbrev pub sum_of : List ℕ → ℕ
sum_of t = word (slice_index t 2) (slice_index t 3)

abbrev pub edition_of : List ℕ → ℕ
edition_of t = slice_index t 4

abbrev pub marked : List ℕ → Bool
marked t = slice_index t 5 == 0x4B && (slice_index t 6 == 0x42 && slice_index t 7 == 0x43)

-- The bytes pass check 10 for an edition whose body has n bytes: there are enough of them, and mark, edition, distance and sum are right.
unfoldable pub ends : ℕ → ℕ → List ℕ → Bool
ends edition n bytes =
    let t = trailer_of bytes in
    nat_le (n + trailer_length) (length bytes)
    && (marked t && (edition_of t == edition && (distance_of t == n && sum_of t == word_sum (body_of n bytes))))

-- How many bytes the body has, by the edition that the trailer names; 0 if check 10 refuses the bytes.
unfoldable pub body_size : List ℕ → ℕ
body_size bytes = cond (ends 1 first_length bytes) first_length (cond (ends 2 body_length bytes) body_length 0)

-- The body, or nothing if check 10 refuses the bytes.
unfoldable pub found : List ℕ → List ℕ
found bytes = body_of (body_size bytes) bytes

-- Where the body starts, or the length where there is none.
unfoldable pub body_start : List ℕ → ℕ
body_start bytes = cond (body_size bytes == 0) (length bytes) (length bytes - (body_size bytes + trailer_length))

-- A place is a block of memory and an offset in it; this one is k bytes further on.
abbrev pub further : ℕ × ℕ → ℕ → ℕ × ℕ
further place k = (place.0, k + place.1)

-- The body as a part of the bytes that a caller lent: which bytes it holds, and where it lies, counted from the place of the bytes.
pub record BodyFound (bytes : List ℕ) (lent : ℕ × ℕ) (part : List ℕ) (place : ℕ × ℕ) : Type 0 where
  pub contents : part ≡ found bytes
  pub start : place ≡ further lent (body_start bytes)
