-- The promises of the calls that start a controller with a caller's table, and of the run that counts its events. Assumes nothing.
use Prim.Native.Nat.{ℕ, ◌/◌, ◌%◌, min}
use mathlib.Core.Path.{◌≡◌, ap, sym, ◌∙◌}
use mathlib.Core.List.{List}
use lib.ListN.{length, length-take}
use borrow.Author.Tests.{eq-eqb}
use Rattle.translation.specs.KeyTable.{built_in, table_refusal}
use Rattle.translation.proofs.KeyTable.{built_in-passes}
use Rattle.machine.specs.Settings.{settings_of}
use Rattle.machine.specs.Run.{events, list_refusal}
use Rattle.machine.proofs.Laws.Run.{length-events}
use Rattle.controller.specs.Promises.{FittingRun, FreshRun, table_run_refusal, TableRun, remainder_refusal, CountedRun}

-- ---- TableRun
-- with a table that the checks accept it is the run from a start with that table
pub table-run : {options version : ℕ} {table list space space' : List ℕ} {n : ℕ} → table_refusal table ≡ 0 →
    FreshRun (settings_of options version table) list space space' n →
    TableRun options version table list space space' n
table-run {table = table} {list} {space} none ran =
    let same : table_run_refusal table list space ≡ list_refusal list space = simp (eq-eqb (table_refusal table) 0 none) in
    record {
      refusal = ran.refusal ∙ sym same;
      refused = λ stands. ran.refused (λ a. stands (same ∙ a));
      answered = λ a. ran.answered (sym same ∙ a);
    }

-- so the run from a start with the built-in table is one of these
pub fresh-table-run : {options version : ℕ} {list space space' : List ℕ} {n : ℕ} → FreshRun (settings_of options version built_in) list space space' n →
    TableRun options version built_in list space space' n
fresh-table-run ran = table-run built_in-passes ran

-- ---- CountedRun
pub counted-run : {s list space s' space' : List ℕ} {count count' : ℕ} → length list % 3 ≡ 0 → count' ≡ min (length space / 9) (length list / 3) →
    FittingRun s list space s' space' →
    CountedRun s list space count 0 s' space' count'
counted-run {list = list} {space} whole fewer ran =
    let none : remainder_refusal list ≡ 0 = simp (eq-eqb (length list % 3) 0 whole) in
    record {
      refusal = sym none;
      refused = λ stands. absurd (stands none);
      run = λ _. ran;
      counted = λ _.
          fewer ∙ ap (min (length space / 9)) (sym (length-events list)) ∙ sym (length-take (length space / 9) (events list));
      kept = ran.kept;
    }
