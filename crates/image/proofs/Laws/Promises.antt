-- The promised records of specs/Promises, for each way through the calls. Assumes nothing.
use mathlib.Core.Path.{◌≡◌, refl, ap, ap₂, sym, subst, ◌∙◌}
use mathlib.Core.List.{List, ◌++◌}
use Prim.Native.Nat.{ℕ, ◌<◌}
use native.Mathlib.Omega.{arith}
use lib.ListN.{length, take, drop, length-take}
use lib.Seq.{drop_at}
use Rattle.std.specs.Prelude.{Ok, Err}
use Rattle.refusals.specs.declared.refusal.Refusal.{Refusal}
use Rattle.refusals.specs.Numbers.{number}
use Rattle.refusals.proofs.Refused.{no_zero}
use Rattle.translation.specs.KeyTable.{built_in, table_refusal}
use Rattle.translation.proofs.Lists.{Below}
use Rattle.machine.specs.Settings.{settings_of}
use Rattle.machine.specs.State.{fresh}
use Rattle.state.specs.View.{state_length, body, given, state_of, view, IsState}
use Rattle.state.specs.Started.{TableStarted}
use Rattle.state.proofs.Laws.Body.{length-body, body_front}
use Rattle.image_bytes.specs.Layout.{body_length, image_length, sealed}
use Rattle.image_bytes.specs.Seal.{space_refusal, image_written, Written}
use Rattle.image_bytes.specs.Find.{found}
use Rattle.image_bytes.proofs.Laws.Layout.{length-sealed}
use Rattle.image_bytes.proofs.Laws.Seal.{take-image_written}
use Rattle.editions.specs.Read.{BodyRead}
use Rattle.image.specs.Image.{image}
use Rattle.image.specs.Load.{load_refusal, state_from}
use Rattle.image.specs.Restored.{Restored}
use Rattle.image.specs.Promises.{Saved, Loaded}
use Rattle.image.proofs.Laws.Load.{load_refusal-image, load_refusal-table, loaded-refused, loaded-accepted}
use Rattle.image.proofs.Laws.RoundTrip.{length-image, image-restored, found-is_state, accepted-restored}

-- ---- Saved
-- the state's first bytes were written as an image
pub saved_written : {s space space' : List ℕ} {n : ℕ} → length s ≡ state_length → Written (sealed 2 (take body_length s)) space n space' → Saved s space n space'
unfolding image
saved_written {s} {space} {space'} {n} long w =
    let size : length (sealed 2 (take body_length s)) ≡ image_length =
    length-sealed 2 (take body_length s) ∙ omega (arith, length-take body_length s, long) in
    let machine : IsState s → space' ≡ image_written (image (view s)) space =
    λ e. w.bytes ∙ ap (λ (b : List ℕ). image_written (sealed 2 b) space) (body_front s long e) in
    record {
      refusal = w.refusal ∙ ap (λ (k : ℕ). space_refusal k space) size;
      bytes = w.bytes;
      machine = machine;
      restored = λ z e k front.
          let long' = length-image (view s) k in
          let first : take image_length space' ≡ image (view s) =
          ap₂ take (sym long') (machine e) ∙ take-image_written (image (view s)) space (ap (λ (j : ℕ). space_refusal j space) long' ∙ z) in
          subst (λ (x : List ℕ). Restored (view s) (front ++ x)) (sym first) (image-restored (view s) k front);
    }

-- ---- Loaded
load-refused : (version : ℕ) (table s bytes : List ℕ) {n : ℕ} → load_refusal table bytes ≡ n → (n ≡ 0 → ⊥) → Loaded version table s bytes n s
load-refused version table s bytes e stands =
    let some : load_refusal table bytes ≡ 0 → ⊥ = λ z. stands (sym e ∙ z) in
    record {
      refusal = sym e;
      refused = λ _. refl;
      stored = λ z. absurd (some z);
      machine = sym (loaded-refused table bytes version (view s) some);
      restored = λ z. absurd (some z);
      is_state = λ b. b;
      kept = λ k. k;
    }

module _ (version : ℕ) (table : List ℕ) {s bytes : List ℕ} where
  -- no image was read
  pub load_unread : {x : Refusal} → BodyRead bytes (Err x) → Loaded version table s bytes (number x) s
  load_unread {x} read =
      load-refused version table s bytes (load_refusal-image table bytes (λ z. no_zero x (read.refusal ∙ z)) ∙ sym read.refusal) (no_zero x)

  -- the table was refused, or the body is copied over the start
  module _ {read' t : List ℕ} (read : BodyRead bytes (Ok read')) where
    pub load-other-table : (x : Refusal) → TableStarted 0 version table s (number x) t → Loaded version table s bytes (number x) t
    load-other-table x start =
        let same : t ≡ s = start.refused (λ z. no_zero x (start.refusal ∙ z)) in
        subst (Loaded version table s bytes (number x)) (sym same)
        (load-refused version table s bytes (load_refusal-table table bytes (sym read.refusal) ∙ sym start.refusal) (no_zero x))

    pub load_stored : {ys : List ℕ} → TableStarted 0 version table s 0 t → version < 256 → Below 256 table → Below 256 bytes → ys ≡ read' →
        Loaded version table s bytes 0 (ys ++ drop 64 t)
    unfolding fresh state_of
    load_stored {ys} start low entries bound copied =
        let x = settings_of 0 version table in
        let passes : table_refusal table ≡ 0 = sym start.refusal in
        let z : load_refusal table bytes ≡ 0 = load_refusal-table table bytes (sym read.refusal) ∙ passes in
        let begun = start.started passes in
        let behind : drop 64 t ≡ given version table =
        ap (drop 64) begun.bytes ∙ drop_at (body (fresh x)) (given version table) 64 (length-body (fresh x) (omega arith) refl) in
        let same : (ys ++ drop 64 t) ≡ state_from version table (found bytes) = ap₂ (λ (a b : List ℕ). a ++ b) (copied ∙ read.body) behind in
        let is_state : IsState (ys ++ drop 64 t) = subst IsState (sym same) (found-is_state version table low entries bytes z) in
        let restored : Restored (view (ys ++ drop 64 t)) bytes =
        subst (λ (l : List ℕ). Restored (view l) bytes) (sym same) (accepted-restored version table low entries bytes z bound) in
        record {
          refusal = sym z;
          refused = λ stands. absurd (stands z);
          stored = λ _. (same, is_state);
          machine = ap view same ∙ sym (loaded-accepted table bytes version (view s) z);
          restored = λ _. restored;
          is_state = λ _. is_state;
          kept = λ _. restored.kept;
        }

-- with the built-in table
pub loaded-built_in : {version : ℕ} {table s bytes s' : List ℕ} {n : ℕ} → table ≡ built_in → Loaded version table s bytes n s' →
    Loaded version built_in s bytes n s'
loaded-built_in {version} {table} {s} {bytes} {s'} {n} same = subst (λ (t : List ℕ). Loaded version t s bytes n s') same
