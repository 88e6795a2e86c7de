-- `editions::read::read_body` meets its contract. No body was found exactly where check 10 stands; one that was found is copied over the bytes of a
-- start with no option, and judged.
-- Assumes nothing.
use Rattle.std.proofs.Common.{◌≡◌, ℕ, List, [], ◌++◌, length, drop, ap₂, Bool, false, eqb, sym, ◌∙◌, arith, eqb-true, length-take}
use lib.ListN.{replicate}
use borrow.Author.Tests.{eqb-false}
use Rattle.editions.specs.Read.{plain_bytes}
use Rattle.editions.proofs.Laws.Read.{base, copied, part-most, read_none, read-broken, read_whole}
use Rattle.editions.proofs.read.read_body.Goals as goal

some : {empty : Bool} {n : ℕ} → empty ≡ eqb n 0 → empty ≡ false → n ≡ 0 → ⊥
some {n = n} is other = eqb-false n 0 (sym is ∙ other)

-- a part that was copied over the front of the base, whose last four bytes were copied before
over : {part front four : List ℕ} → four ≡ plain_bytes → front ≡ part →
    front ++ drop (length part) (replicate 60 0 ++ (four ++ [])) ≡ copied part base
over {part} plain same = ap₂ (λ (f l : List ℕ). l ++ drop (length part) (replicate 60 0 ++ (f ++ []))) plain same

pub returns-then-is_empty : goal.returns-then-is_empty
returns-then-is_empty c = read_none _ c.find-part.ensures.contents (eqb-true _ 0 (sym c.is_empty.ensures ∙ c.if-is_empty.true))

pub slice_bounds-body-end-2 : goal.slice_bounds-body-end-2
slice_bounds-body-end-2 c = rw c.copy_from_slice.ensures.after (part-most _ c.find-part.ensures.contents)

pub copy_from_slice-requires-2 : goal.copy_from_slice-requires-2
copy_from_slice-requires-2 c = rw c.copy_from_slice.ensures.after (omega (arith, length-take {A = ℕ}, part-most _ c.find-part.ensures.contents))

pub slice_bounds-copy_from_slice-end-2 : goal.slice_bounds-copy_from_slice-end-2
slice_bounds-copy_from_slice-end-2 c =
    rw c.copy_from_slice.ensures.after (omega (arith, length-take {A = ℕ}, part-most _ c.find-part.ensures.contents))

pub returns-then-body_kept : goal.returns-then-body_kept
returns-then-body_kept c =
    read_whole _ c.find-part.ensures.contents (some c.is_empty.ensures c.if-is_empty.false)
    (over c.copy_from_slice.ensures.after c.copy_from_slice-2.ensures.after) c.body_kept.ensures c.if-body_kept.true

pub returns-else-body_kept : goal.returns-else-body_kept
returns-else-body_kept c =
    read-broken _ c.find-part.ensures.contents (some c.is_empty.ensures c.if-is_empty.false)
    (over c.copy_from_slice.ensures.after c.copy_from_slice-2.ensures.after) c.body_kept.ensures c.if-body_kept.false
