-- A command by the set of the start, and a command that was decoded: its three changes are the write's. Assumes nothing.
use Prim.Native.Nat.{ℕ}
use mathlib.Core.Path.{◌≡◌, ap, subst, sym, ◌∙◌}
use mathlib.Core.Bool.{false}
use mathlib.Core.List.{List}
use Rattle.translation.proofs.Tests.{split}
use Rattle.machine.specs.Settings.{Settings}
use Rattle.machine.specs.State.{Machine, with_host, after_command, lift}
use Rattle.machine.specs.Lines.{second_set}
use Rattle.machine.specs.SecondSet.{second_only}
use Rattle.machine.specs.Commands.{load_cut, acts, write_command}
use Rattle.machine.specs.Events.{event, refusal}
use Rattle.machine.proofs.Laws.Cond.{not_both}
use Rattle.machine.proofs.Laws.Commands.{write_command-known, load_cut-settings, acts-none}
use Rattle.state.specs.View.{public, view}
use Rattle.state.specs.Changed.{Changed}
use Rattle.std.specs.Prelude.{Ok}
use Rattle.state.specs.declared.told.Told.{Told}
use Rattle.state.specs.Told.{own, EventTold}
use Rattle.state.proofs.Laws.Changed.{by_three}
use Rattle.state.proofs.Laws.Told.{told_command}
use Rattle.decoding.specs.Promises.{CommandDecoded, heard}
use Rattle.decoding.specs.declared.commands.Decoded.{Decoded}
use Rattle.decoding.proofs.Laws.{heard-known, heard-left}
use Rattle.command_port.specs.Promises.{ChangedBySet}

-- ---- ChangedBySet
-- a command that both sets have
pub by_set : {rule : Machine → Machine} {c k : ℕ} {s t : List ℕ} → Changed rule s t → c ≡ k → second_only k ≡ false → ChangedBySet c rule s t
by_set change key both = record { known = λ _. change; left = λ _ only. not_both only (ap second_only key ∙ both) }

-- ---- a whole write
module _ {s t u : List ℕ} {c : ℕ} {d : Decoded}
    (cut : Changed load_cut s t)
    (decoded : CommandDecoded (public t).settings c d)
    (written : Changed (lift (λ p. with_host p (after_command d.pending d.cell))) t u) where
  -- a load that is cut short leaves the settings, and so does the start of a command
  from_start : CommandDecoded (public s).settings c d
  from_start = subst (λ (x : Settings). CommandDecoded x c d) (ap (λ (m : Machine). m.plain.settings) cut.machine ∙ load_cut-settings (view s)) decoded

  settings_now : (public u).settings ≡ (public s).settings
  settings_now = ap (λ (m : Machine). m.plain.settings) written.machine ∙ ap (λ (m : Machine). m.plain.settings) cut.machine ∙ load_cut-settings (view s)

  pub command_done : {v : List ℕ} {high : ℕ} (t : Told) → (t.read ≡ 0) × (t.old ≡ false) × (t.pulse ≡ d.pulse) →
      0 ≡ refusal (public s) (event 3 c high) → ChangedBySet d.command (acts d.command) u v → EventTold s (event 3 c high) v (own (Ok t))
  command_done {v} t (read, old, pulsed) checked acted =
      let x = (public s).settings in
      let heard' = from_start.command in
      let set-now : second_set (public u) ≡ x.second_set = ap (λ (y : Settings). y.second_set) settings_now in
      told_command t checked (read, old, pulsed ∙ from_start.pulse)
      (split (second_only d.command)
      (λ only.
      split x.second_set
      (λ two. carried acted (λ one. not_both two (sym set-now ∙ one)) (λ one. not_both two one))
      (λ one.
      by_three cut written (acted.left (set-now ∙ one) only)
      (sym (acts-none _) ∙ write_command-known (view s) c (heard-left x c one (ap second_only (sym heard') ∙ only)) from_start.pending from_start.cell)))
      (λ other. carried acted (λ _. other) (λ _. ap second_only (sym heard') ∙ other)))
    where
      carried : ChangedBySet d.command (acts d.command) u v → (second_set (public u) ≡ false → second_only d.command ≡ false) →
          ((public s).settings.second_set ≡ false → second_only (heard (public s).settings c) ≡ false) → Changed (write_command c) s v
      carried acted known now-known =
          by_three cut written (acted.known known)
          (write_command-known (view s) c (from_start.command ∙ heard-known (public s).settings c now-known) from_start.pending from_start.cell)
