-- What a command that is looked up as itself leaves and does, though the set of the start does not have it. Assumes nothing.
use Prim.Native.Nat.{ℕ, ◌<◌}
use mathlib.Core.Path.{◌≡◌, refl, sym}
use mathlib.Core.Bool.{Bool, true, false, cond, not, ◌&&◌}
use lib.Dec.{eqb}
use borrow.Author.Tests.{eqb-true, not-true}
use Rattle.translation.proofs.Tests.{split, and_true, every_below}
use Rattle.machine.specs.Settings.{Settings}
use Rattle.machine.specs.SecondSet.{second_only}
use Rattle.machine.specs.Commands.{understood, pending_of, cell_named}
use Rattle.machine.proofs.Laws.Cond.{not_both}
use Rattle.machine.proofs.Laws.Commands.{understood_second, understood-first, understood-known}
use Rattle.decoding.specs.Promises.{heard}

-- a command of the second set's own leaves no pending code and no cell
bare : ℕ → Bool
bare c = cond (second_only c) (eqb (pending_of c) 0 && eqb (cell_named c) 0) true

own_bare : (c : ℕ) → c < 256 → second_only c ≡ true → (pending_of c ≡ 0) × (cell_named c ≡ 0)
unfolding bare pending_of
own_bare c byte own =
    let passed : bare c ≡ true = every_below bare 256 refl c byte in
    let both = and_true (eqb (pending_of c) 0) (eqb (cell_named c) 0) (simp own at passed) in
    (eqb-true _ _ both.0, eqb-true _ _ both.1)

module _ (x : Settings) (c : ℕ) where
  abbrev ordinary : Bool
  ordinary = not x.at_mode && not x.second_set

  -- what it leaves is what the command as it is understood leaves
  pub heard_leaves : c < 256 → (pending_of (heard x c) ≡ pending_of (understood x c)) × (cell_named (heard x c) ≡ cell_named (understood x c))
  unfolding pending_of
  heard_leaves byte =
      split ordinary
      (λ stands.
      split (second_only c)
      (λ own.
      let left : 0 ≡ understood x c = understood_second x c refl stands refl own in
      let (code, cell) = own_bare c byte own in
      rw (sym left) (simp stands (code, cell)))
      (λ none.
      let same : c ≡ understood x c = understood-first x c refl stands refl none in
      rw (sym same) (simp stands (refl, refl))))
      (λ other. simp other (refl, refl))

  -- with the first set one that only the second has is understood as 00h, and any other as itself
  pub heard-known : (x.second_set ≡ false → second_only (heard x c) ≡ false) → heard x c ≡ understood x c
  heard-known known =
      split ordinary
      (λ stands.
      let (ps2, first) = and_true (not x.at_mode) (not x.second_set) stands in
      let none : second_only c ≡ false = simp stands at known (not-true x.second_set first) in
      simp stands (understood-first x c refl stands refl none))
      (λ other. simp other)

  pub heard-left : x.second_set ≡ false → second_only (heard x c) ≡ true → 0 ≡ understood x c
  heard-left one own =
      split ordinary
      (λ stands.
      let only : second_only c ≡ true = simp stands at own in
      understood_second x c refl stands refl only)
      (λ other.
      let only : second_only (understood x c) ≡ true = simp other at own in
      not_both only ((understood-known x c).second one))
