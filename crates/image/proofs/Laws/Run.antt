-- Laws of specs/Run: which number stands, and the promised record, for each way through the call. Assumes nothing.
use mathlib.Core.Path.{◌≡◌, refl, ap, ap₂, sym, subst, ◌∙◌}
use mathlib.Core.List.{List, ◌++◌, append_assoc}
use Prim.Native.Nat.{ℕ, ◌*◌, ◌≤◌, ◌<◌}
use native.Mathlib.Omega.{arith}
use lib.ListN.{length, drop}
use Rattle.refusals.specs.declared.refusal.Refusal.{Refusal}
use Rattle.refusals.specs.Numbers.{number}
use Rattle.refusals.proofs.Refused.{no_zero}
use Rattle.translation.specs.KeyTable.{built_in}
use Rattle.machine.specs.Settings.{Settings}
use Rattle.machine.specs.State.{Machine}
use Rattle.machine.specs.Events.{Event}
use Rattle.machine.specs.Run.{events, after, answers, filled, list_refusal}
use Rattle.machine.specs.Kept.{Kept}
use Rattle.state.specs.View.{state_of, view, IsState}
use Rattle.machine.proofs.Laws.Settings.{after-settings}
use Rattle.machine.proofs.Laws.Run.{after_kept, after-append, answers-append}
use Rattle.controller.specs.Promises.{ListRun}
use Rattle.image_bytes.specs.Layout.{image_length}
use Rattle.image_bytes.proofs.Laws.Checks.{first_of-none, first_of_some}
use Rattle.image_bytes.proofs.Laws.Seal.{space_refusal_short, space_refusal-room}
use Rattle.image.specs.Image.{image}
use Rattle.image.specs.Load.{load_refusal, resumed}
use Rattle.image.specs.Save.{save_refusal, saved}
use Rattle.image.specs.Restored.{Restored}
use Rattle.image.specs.Promises.{Saved, Loaded}
use Rattle.image.specs.Run.{run_refusal, SplitRun, ImageRun}
use Rattle.image.proofs.Laws.Load.{loaded-accepted}
use Rattle.image.proofs.Laws.RoundTrip.{image-restored}

-- ---- run_refusal
module _ (table bytes list space room : List ℕ) where
  refusal_list : (list_refusal list space ≡ 0 → ⊥) → run_refusal table bytes list space room ≡ list_refusal list space
  unfolding run_refusal
  refusal_list stands = first_of_some (list_refusal list space) _ stands

  refusal-room : list_refusal list space ≡ 0 → (save_refusal room ≡ 0 → ⊥) → run_refusal table bytes list space room ≡ save_refusal room
  unfolding run_refusal
  refusal-room a stands = first_of-none (list_refusal list space) _ a ∙ first_of_some (save_refusal room) _ stands

  refusal-load : list_refusal list space ≡ 0 → save_refusal room ≡ 0 → run_refusal table bytes list space room ≡ load_refusal table bytes
  unfolding run_refusal
  refusal-load a b = first_of-none (list_refusal list space) _ a ∙ first_of-none (save_refusal room) _ b

-- by what a load came to
refusal-loaded : (list space room : List ℕ) {version : ℕ} {table s bytes t : List ℕ} {n : ℕ} → list_refusal list space ≡ 0 → image_length ≤ length room →
    Loaded version table s bytes n t →
    n ≡ run_refusal table bytes list space room
refusal-loaded list space room {table = table} {bytes = bytes} a enough load =
    load.refusal ∙ sym (refusal-load table bytes list space room a (space_refusal-room image_length room enough))

-- ---- SplitRun
module _ {version : ℕ} {table : List ℕ} (m : Machine) (es : List Event) (front : List ℕ) (k : Kept m)
    (same_version : m.plain.settings.version ≡ version) (same_table : m.plain.settings.table ≡ table)
    {bytes : List ℕ} (here : bytes ≡ front ++ image (after m es)) where
  middle : Restored (after m es) bytes
  middle = rw here (image-restored (after m es) (after_kept m es k) front)

  -- no event changes what was given
  version-after : (after m es).plain.settings.version ≡ version
  version-after = ap (λ (x : Settings). x.version) (after-settings m es) ∙ same_version

  table-after : (after m es).plain.settings.table ≡ table
  table-after = ap (λ (x : Settings). x.table) (after-settings m es) ∙ same_table

  middle_accepted : load_refusal table bytes ≡ 0
  middle_accepted = sym (ap (λ (t : List ℕ). load_refusal t bytes) table-after) ∙ middle.accepted

  middle_resumed : resumed version table bytes ≡ after m es
  middle_resumed =
      sym (ap₂ (λ (v : ℕ) (t : List ℕ). resumed v t bytes) version-after table-after)
      ∙ sym (loaded-accepted _ bytes _ m middle.accepted) ∙ middle.machine m

  split-run : (fs : List Event) {space room space' room' : List ℕ} →
      space' ≡ filled (resumed version table bytes) fs space →
      room' ≡ saved (after (resumed version table bytes) fs) room →
      SplitRun m es fs space room space' room'
  unfolding filled
  split-run fs {space} {room} answered imaged =
      let v = middle_resumed in
      let rest = drop (9 * length fs) space in
      record {
        answered =
            ap (λ (xs : List ℕ). answers m es ++ xs) (answered ∙ ap (λ (n : Machine). filled n fs space) v)
            ∙ sym (append_assoc (answers m es) (answers (after m es) fs) rest)
            ∙ ap (λ (xs : List ℕ). xs ++ rest) (sym (answers-append m es fs));
        imaged = imaged ∙ ap (λ (n : Machine). saved n room) (ap (λ (n : Machine). after n fs) v ∙ sym (after-append m es fs));
      }

-- ---- ImageRun
module _ (version : ℕ) (table : List ℕ) {bytes list space room : List ℕ} where
  call_refused : {n : ℕ} → n ≡ run_refusal table bytes list space room → (n ≡ 0 → ⊥) → ImageRun version table bytes list space room n space room
  call_refused e stands =
      record {
        refusal = e;
        refused = λ _. (refl, refl);
        answered = λ z. absurd (stands (e ∙ z));
        imaged = λ z. absurd (stands (e ∙ z));
        split = λ m es front k v t here a b.
            absurd (stands (e ∙ refusal-load table bytes list space room a b ∙ middle_accepted m es front k v t here));
      }

  pub refused-list : (x : Refusal) → number x ≡ list_refusal list space → ImageRun version table bytes list space room (number x) space room
  refused-list x listed =
      call_refused (listed ∙ sym (refusal_list table bytes list space room (λ z. no_zero x (listed ∙ z)))) (no_zero x)

  -- the list passes its checks
  module _ (listed : 0 ≡ list_refusal list space) where
    pub refused-room : length room < image_length → ImageRun version table bytes list space room 9 space room
    refused-room short =
        let nine = space_refusal_short image_length room short in
        call_refused (sym nine ∙ sym (refusal-room table bytes list space room (sym listed) (λ z. omega (arith, z, nine)))) (λ z. omega arith)

    -- t is the state after the load, and n what it came to
    module _ {s t : List ℕ} (enough : image_length ≤ length room) where
      pub refused-load : (x : Refusal) → Loaded version table s bytes (number x) t → ImageRun version table bytes list space room (number x) space room
      refused-load x load = call_refused (refusal-loaded list space room (sym listed) enough load) (no_zero x)

      -- u is the state after the run
      pub loaded-ran-saved : {u space' room' : List ℕ} {l n : ℕ} → Loaded version table s bytes 0 t → ListRun t list space l u space' → Saved u room n room' →
          ImageRun version table bytes list space room n space' room'
      loaded-ran-saved {u} {space'} {room'} {n = n} load run save =
          let from-image = resumed version table bytes in
          let zero : list_refusal list space ≡ 0 = sym listed in
          let good : n ≡ 0 = save.refusal ∙ space_refusal-room image_length room enough in
          let passed : run_refusal table bytes list space room ≡ 0 = sym (refusal-loaded list space room zero enough load) in
          let stored = load.stored (sym load.refusal) in
          let from : view t ≡ from-image = ap view stored.0 in
          let whole : IsState u = run.bytes zero stored.1 ∙ ap state_of (sym (run.machine zero)) in
          let answered : space' ≡ filled from-image (events list) space =
          run.buffer zero ∙ ap (λ (m : Machine). filled m (events list) space) from in
          let imaged : room' ≡ saved (after from-image (events list)) room =
          save.machine whole ∙ ap (λ (m : Machine). saved m room) (run.machine zero ∙ ap (λ (m : Machine). after m (events list)) from) in
          record {
            refusal = good ∙ sym passed;
            refused = λ stands. absurd (stands passed);
            answered = λ _. answered;
            imaged = λ _. imaged;
            split = λ m es front k v t here _ _. (good, split-run m es front k v t here (events list) answered imaged);
          }

-- with the built-in table
pub ran_built_in : {version : ℕ} {table bytes list space room space' room' : List ℕ} {n : ℕ} → table ≡ built_in →
    ImageRun version table bytes list space room n space' room' →
    ImageRun version built_in bytes list space room n space' room'
ran_built_in {version} {table} {bytes} {list} {space} {room} {space'} {room'} {n} same =
    subst (λ (t : List ℕ). ImageRun version t bytes list space room n space' room') same
