-- From two runs that are each the machine's, what the calls that compare them promise. The answers' equality is the theorem on paired lists.
-- Assumes nothing.
use Prim.Native.Nat.{ℕ, ◌*◌, ◌/◌}
use mathlib.Core.Path.{◌≡◌, refl, ap, sym, ◌∙◌}
use mathlib.Core.Bool.{cond}
use mathlib.Core.List.{List}
use lib.Dec.{eqb}
use lib.ListN.{length, take, length-take}
use Rattle.translation.specs.KeyTable.{table_refusal}
use Rattle.machine.specs.State.{Machine}
use Rattle.machine.specs.Events.{Event}
use Rattle.machine.specs.Run.{events, answers, filled, fitting}
use Rattle.state.specs.Started.{TableStarted}
use Rattle.machine.proofs.Laws.Run.{take-filled, list_refusal-length}
use Rattle.controller.specs.Promises.{table_run_refusal, TableRun, FittingRun}
use Rattle.secrecy.specs.Compared.{begun, ListsCompared, FittingCompared}
use Rattle.secrecy.proofs.Paired.{secret-answers, secret-take}

-- buffers filled with equal answers begin alike
begin_alike : (m : Machine) (es fs : List Event) (s t : List ℕ) {s' t' : List ℕ} → length es ≡ length fs → answers m es ≡ answers m fs
    → s' ≡ filled m es s → t' ≡ filled m fs t → take (9 * length es) s' ≡ take (9 * length es) t'
begin_alike m es fs s t same equal one other =
    rw (one, other, take-filled m es s, equal, same) (sym (take-filled m fs t))

-- ---- ListsCompared
-- two runs with one table: demand 3 for whichever table passes the checks
pub compared : {options version : ℕ} {table xs s s' ys t t' : List ℕ} {first second : ℕ} →
    TableRun options version table xs s s' first →
    TableRun options version table ys t t' second →
    ListsCompared options version table xs s s' ys t t' first second
compared {options} {version} {table} {xs} {s} {ys = ys} {t = t} one other =
    let alike : length xs ≡ length ys → length s ≡ length t → table_run_refusal table xs s ≡ table_run_refusal table ys t =
    λ p q. ap (λ (n : ℕ). cond (eqb (table_refusal table) 0) n (table_refusal table)) (list_refusal-length xs ys s t p q) in
    record {
      one = one;
      other = other;
      numbers = λ p q. one.refusal ∙ alike p q ∙ sym other.refusal;
      answers = λ paired p q zero.
          let a : table_run_refusal table xs s ≡ 0 = sym one.refusal ∙ zero in
          begin_alike (begun options version table) (events xs) (events ys) s t paired.lengths (secret-answers paired)
          (one.answered a) (other.answered (sym (alike p q) ∙ a));
    }

-- ---- FittingCompared
module _ {options version number : ℕ} {table q q' : List ℕ} (start : TableStarted options version table q number q') where
  pub fitting-refused : {xs s ys t : List ℕ} → (number ≡ 0 → ⊥) → FittingCompared options version table xs s s ys t t number
  fitting-refused some =
      let stands : table_refusal table ≡ 0 → ⊥ = λ none. some (start.refusal ∙ none) in
      record {
        refusal = start.refusal;
        refused = λ _. (refl, refl);
        one = λ none. absurd (stands none);
        other = λ none. absurd (stands none);
        answers = λ none. absurd (stands none);
      }

  -- both runs from the one state that was started
  pub fitting_compared : {xs s s' ys t t' r u : List ℕ} → number ≡ 0 → FittingRun q' xs s r s' → FittingRun q' ys t u t' →
      FittingCompared options version table xs s s' ys t t' 0
  fitting_compared {xs} {s} {ys = ys} {t = t} accepted went went' =
      let none = sym start.refusal ∙ accepted in
      let m = begun options version table in
      let seen = (start.started none).machine in
      let one = went.buffer ∙ ap (λ (k : Machine). filled k (fitting xs s) s) seen in
      let other = went'.buffer ∙ ap (λ (k : Machine). filled k (fitting ys t) t) seen in
      record {
        refusal = sym none;
        refused = λ stands. absurd (stands none);
        one = λ _. one;
        other = λ _. other;
        answers = λ _ paired same.
            begin_alike m (fitting xs s) (fitting ys t) s t
            (length-take (length s / 9) (events xs) ∙ rw (paired.lengths, same) (sym (length-take (length t / 9) (events ys))))
            (secret-take paired (length s / 9) ∙ ap (λ (n : ℕ). answers m (take (n / 9) (events ys))) same) one other;
      }
