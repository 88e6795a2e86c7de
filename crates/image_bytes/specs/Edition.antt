-- The two editions of an image (document 02, W9): the number that a trailer has, and how many bytes a body has.
use Rattle.std.specs.Prelude.{ℕ, Option, None, Some}
use Rattle.image_bytes.specs.declared.edition.Edition.{Edition}
use Rattle.image_bytes.specs.declared.edition.Edition.TheVariants.{First, Second}

abbrev pub number : Edition → ℕ
number First = 1
number Second = 2

abbrev pub size : Edition → ℕ
size First = 60
size Second = 64

-- 0 where there is none
abbrev pub size_or_zero : Option Edition → ℕ
size_or_zero None = 0
size_or_zero (Some e) = size e
