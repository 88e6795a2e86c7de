-- What the calls promise that hand out bytes as frames.
use Rattle.std.specs.Prelude.{ℕ, ◌≡◌, List, ◌++◌, map, length, drop}
use Rattle.translation.specs.Frames.{frame}
use Rattle.trackball.specs.Trackball.{Mouse}
use Rattle.trackball_calls.specs.Stored.{bytes_of}

-- Bytes as sound frames, in order, at the front of the places lent; the places past them stay.
abbrev pub framed : List ℕ → List ℕ → List ℕ
framed bytes places = map frame bytes ++ drop (length bytes) places

-- These bytes are handed out, and the trackball is m afterwards: n frames.
pub record HandedOut (bytes : List ℕ) (m : Mouse) (places : List ℕ) (state' places' : List ℕ) (n : ℕ) : Type 0 where
  pub state : state' ≡ bytes_of m
  pub count : n ≡ length bytes
  pub frames : places' ≡ framed bytes places
