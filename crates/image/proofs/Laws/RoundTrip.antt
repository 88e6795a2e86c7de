-- Saving and loading undo each other: specs/Restored of the image of every machine that keeps the body rules, wherever it stands, and of every image
-- of either edition that a load accepts. Assumes nothing.
use mathlib.Core.Path.{◌≡◌, ap, ap₂, sym, subst, ◌∙◌}
use mathlib.Core.Bool.{true}
use mathlib.Core.List.{List, ◌++◌}
use Prim.Native.Nat.{ℕ, zero, suc, ◌+◌, ◌-◌, ◌<◌}
use native.Mathlib.Omega.{arith}
use lib.ListN.{length}
use lib.Seq.{take_at}
use borrow.Author.Tests.{eq-eqb, ne_eqb}
use Rattle.translation.specs.KeyTable.{table_refusal}
use Rattle.translation.proofs.KeyTable.{accepted-length}
use Rattle.translation.proofs.Tests.{cond_true, cond_false}
use Rattle.translation.proofs.Lists.{Below, below_take, below_drop, below_append}
use Rattle.machine.specs.State.{Machine}
use Rattle.machine.specs.Kept.{Kept}
use Rattle.state.specs.View.{state_length, body, given, state_of, view, IsState}
use Rattle.state.proofs.Laws.Body.{length-body, view-state, tidy_state, body_front}
use Rattle.image_bytes.specs.Layout.{body_length, image_length, sealed}
use Rattle.image_bytes.specs.Find.{last_bytes, body_size, found}
use Rattle.image_bytes.proofs.Laws.Layout.{length-sealed}
use Rattle.image_bytes.proofs.Laws.Find.{sealed_2, by_size, found_sized, length_found}
use Rattle.image_bytes.proofs.Laws.Trailer.{last_bytes-append, body_of-sealed, sealed-trailer, last_bytes-sealed}
use Rattle.body_rules.specs.Rules.{body_kept}
use Rattle.body_rules.proofs.Laws.Rules.{Rules, body_kept_rules, rules_body_kept, body_kept_front}
use Rattle.editions.specs.Read.{plain_bytes, completed}
use Rattle.editions.specs.Moves.{forward}
use Rattle.editions.proofs.Laws.Read.{completed_2, image_refusal-kept, accepted-kept, length-completed}
use Rattle.image.specs.Image.{image}
use Rattle.image.specs.Load.{load_refusal, state_from, resumed, loaded}
use Rattle.image.specs.Restored.{renewed, Restored, Exact}
use Rattle.image.proofs.Laws.Load.{length-given, version-given, table-given, load_refusal-table, accepted, loaded-accepted}
use Rattle.image.proofs.Laws.Rules.{rules_tidy, view-kept, state_rules}

-- ---- renewed
renewed_2 : (bytes : List ℕ) → body_size bytes ≡ body_length → renewed bytes ≡ last_bytes image_length bytes
unfolding renewed
renewed_2 bytes two = cond_true _ _ _ (eq-eqb (body_size bytes) body_length two)

renewed-other : (bytes : List ℕ) → (body_size bytes ≡ body_length → ⊥) → renewed bytes ≡ forward bytes
unfolding renewed
renewed-other bytes other = cond_false _ _ _ (ne_eqb (body_size bytes) body_length other)

-- either way it is the body that was read, with the trailer of edition 2
renewed-sealed : (bytes : List ℕ) → Below 256 bytes → renewed bytes ≡ sealed 2 (completed (found bytes))
unfolding forward
renewed-sealed bytes bound =
    by_size bytes
    (λ e. renewed-other bytes (λ two. omega (arith, e, two)))
    (λ e _. renewed-other bytes (λ two. omega (arith, e, two)))
    (λ two s.
    renewed_2 bytes two ∙ last_bytes-sealed 2 body_length bytes s bound
    ∙ ap (sealed 2) (sym (found_sized bytes two) ∙ sym (completed_2 (found bytes) (length_found bytes ∙ two))))

-- ---- the body of a machine that keeps the rules
module _ (m : Machine) (k : Kept m) where
  abbrev version : ℕ
  version = m.plain.settings.version

  abbrev table : List ℕ
  table = m.plain.settings.table

  body_long : length (body m) ≡ body_length
  body_long = length-body m k.code k.ram

  body_is_kept : body_kept (body m) ≡ true
  unfolding state_of
  body_is_kept = sym (body_kept_front (body m) (given version table) body_long) ∙ rules_body_kept (state_of m) (state_rules m k)

  body_whole : completed (body m) ≡ body m
  body_whole = completed_2 (body m) body_long

  pub length-image : length (image m) ≡ image_length
  unfolding image
  length-image = length-sealed 2 (body m) ∙ ap (λ (n : ℕ). n + 8) body_long

  -- with its version byte and table behind it, it is the state
  resumed-body : view (state_from version table (body m)) ≡ m
  unfolding state_of
  resumed-body = ap (λ (b : List ℕ). view (b ++ given version table)) body_whole ∙ view-state m k.code k.ram

  -- ---- its image behind other bytes
  module _ (front : List ℕ) where
    image-size : body_size (front ++ image m) ≡ body_length
    unfolding image
    image-size = sealed_2 (front ++ image m) (sealed-trailer 2 body_length front (body m) body_long (omega arith))

    found-image : found (front ++ image m) ≡ body m
    unfolding image
    found-image = found_sized (front ++ image m) image-size ∙ body_of-sealed 2 body_length front (body m) body_long

    image-accepted : load_refusal table (front ++ image m) ≡ 0
    image-accepted =
        load_refusal-table table (front ++ image m)
        (image_refusal-kept (front ++ image m) (λ e. omega (arith, e, image-size)) (ap (λ (b : List ℕ). body_kept (completed b)) found-image ∙ ap body_kept body_whole ∙ body_is_kept))
        ∙ k.table

    pub image-restored : Restored m (front ++ image m)
    image-restored =
        record {
          accepted = image-accepted;
          body = ap completed found-image ∙ body_whole;
          machine = λ before.
              loaded-accepted table (front ++ image m) version before image-accepted
              ∙ ap (λ (b : List ℕ). view (state_from version table b)) found-image ∙ resumed-body;
          kept = k;
          again = sym (renewed_2 (front ++ image m) image-size ∙ last_bytes-append front (image m) image_length length-image);
        }

-- ---- a body that passes the test, with a version byte and a table behind it
below_plain : Below 256 plain_bytes
below_plain zero = omega arith
below_plain (suc zero) = omega arith
below_plain (suc (suc zero)) = omega arith
below_plain (suc (suc (suc zero))) = omega arith
below_plain (suc (suc (suc (suc k)))) = omega arith

below_given : (version : ℕ) (table : List ℕ) → version < 256 → Below 256 table → Below 256 (given version table)
below_given version table low entries zero = low
below_given version table low entries (suc k) = entries k

module _ (version : ℕ) (table : List ℕ) (low : version < 256) (entries : Below 256 table) (b : List ℕ) (long : length b ≡ body_length) where
  abbrev made : List ℕ
  made = b ++ given version table

  module _ (kept : body_kept b ≡ true) (passes : table_refusal table ≡ 0) where
    made-long : length made ≡ state_length
    made-long = length-given b long version table (accepted-length table passes)

    made-rules : Rules made
    made-rules = body_kept_rules made (body_kept_front b (given version table) long ∙ kept)

    made-state : IsState made
    made-state = tidy_state made (rules_tidy made made-long made-rules)

    made-body : b ≡ body (view made)
    made-body = sym (take_at b (given version table) 64 long) ∙ body_front made made-long made-state

    made_kept : Below 256 b → Kept (view made)
    made_kept bound =
        view-kept made made-long made-rules (below_append 256 b (given version table) bound (below_given version table low entries))
        (ap table_refusal (table-given b long version table) ∙ passes)

  -- the test is exact
  pub exact : Below 256 b → Exact version table b
  unfolding state_of
  exact bound =
      record {
        sound = λ kept passes. (made-state kept passes, made_kept kept passes bound);
        complete = λ is_state k.
            let rules : Rules made = subst Rules (sym is_state) (state_rules (view made) k) in (
              sym (body_kept_front b (given version table) long) ∙ rules_body_kept made rules,
              sym (ap table_refusal (table-given b long version table)) ∙ k.table,
            );
      }

-- ---- an image that is accepted
module _ (version : ℕ) (table : List ℕ) (low : version < 256) (entries : Below 256 table) (bytes : List ℕ) (z : load_refusal table bytes ≡ 0) where
  abbrev read : List ℕ
  read = completed (found bytes)

  read_long : length read ≡ body_length
  read_long = length-completed bytes (accepted table bytes z).0

  read_kept : body_kept read ≡ true
  read_kept = accepted-kept bytes (accepted table bytes z).0

  -- the state that it makes is that of its machine
  pub found-is_state : IsState (state_from version table (found bytes))
  found-is_state = made-state version table low entries read read_long read_kept (accepted table bytes z).1

  read_below : Below 256 bytes → Below 256 read
  unfolding completed found
  read_below bound =
      let n = body_size bytes in
      let part : Below 256 (found bytes) = below_take 256 n (last_bytes (n + 8) bytes) (omega arith) (below_drop 256 (length bytes - (n + 8)) bytes bound) in
      below_take 256 body_length (found bytes ++ plain_bytes) (omega arith) (below_append 256 (found bytes) plain_bytes part below_plain)

  pub accepted-restored : Below 256 bytes → Restored (resumed version table bytes) bytes
  unfolding image
  accepted-restored bound =
      let passes = (accepted table bytes z).1 in
      let theirs = table-given read read_long version table in
      let body_of = made-body version table low entries read read_long read_kept passes in
      record {
        accepted = ap (λ (t : List ℕ). load_refusal t bytes) theirs ∙ z;
        body = body_of;
        machine = λ before.
            ap₂ (λ (v : ℕ) (t : List ℕ). loaded v t before bytes) (version-given read read_long version table) theirs
            ∙ loaded-accepted table bytes version before z;
        kept = made_kept version table low entries read read_long read_kept passes (read_below bound);
        again = ap (sealed 2) (sym body_of) ∙ sym (renewed-sealed bytes bound);
      }

-- ---- one machine for a body, a version byte and a table
pub body_injective : (m n : Machine) → Kept m → Kept n →
    m.plain.settings.version ≡ n.plain.settings.version →
    m.plain.settings.table ≡ n.plain.settings.table →
    body m ≡ body n →
    m ≡ n
unfolding state_of
body_injective m n k l version table e =
    sym (view-state m k.code k.ram)
    ∙ (λ i. view (e i ++ given (version i) (table i)))
    ∙ view-state n l.code l.ram
