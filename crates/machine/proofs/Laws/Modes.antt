-- In PS/2 mode with the first command set every rule is document 01's, at each place of every list that runs from fresh. Assumes nothing.
use mathlib.Core.Path.{◌≡◌, ap, sym, ◌∙◌}
use mathlib.Core.Bool.{Bool, false, and-false, and-true}
use mathlib.Core.List.{List}
use Rattle.machine.specs.Settings.{Settings}
use Rattle.machine.specs.State.{Machine, fresh, with_errors}
use Rattle.machine.specs.Lines.{at_mode, second_set, input_port, overlay_shown, high_nibble, output_port}
use Rattle.machine.specs.SecondSet.{single_command, second_command}
use Rattle.machine.specs.Commands.{plain_command, code_asked, acts, write_command, test_inputs, pulse_of}
use Rattle.machine.specs.Events.{Event, state_refusal}
use Rattle.machine.specs.Run.{after}
use Rattle.machine.specs.Kept.{Kept}
use Rattle.machine.specs.Modes.{Ps2Rules}
use Rattle.machine.proofs.Laws.SecondSet.{second_none}
use Rattle.machine.proofs.Laws.KeptParts.{SettingsKept}
use Rattle.machine.proofs.Laws.Kept.{fresh_kept}
use Rattle.machine.proofs.Laws.Settings.{fresh-settings, after-settings}
use Rattle.machine.proofs.Laws.Run.{after_kept}

pub ps2_rules : (m : Machine) → Kept m → at_mode m.plain ≡ false → second_set m.plain ≡ false → Ps2Rules m
unfolding input_port overlay_shown high_nibble output_port code_asked acts plain_command second_command single_command write_command test_inputs pulse_of state_refusal
ps2_rules m k ps2 one =
    record {
      pins = simp one;
      status = simp (ps2, one);
      port = simp ps2;
      command = λ c first. simp (ps2, one, first);
      unknown = λ c second. simp (ps2, one, second);
      own = λ c first. second_none c m.plain first;
      asked = simp (one, and-true);
      overlays = λ n. simp one;
      latches = λ v. simp (ps2, one);
      inputs = simp ps2;
      pulses = λ c. simp ps2;
      errors = λ t e. ap (λ (b : Bool). with_errors m.plain (record { terr = t; perr = e; ttim = b })) (sym (k.ttim ps2));
      timeout = simp (ps2, k.ttim ps2);
      checks = λ n. simp (ps2, and-false);
    }

pub ps2-run : (x : Settings) → SettingsKept x → x.at_mode ≡ false → x.second_set ≡ false → (es : List Event) → Ps2Rules (after (fresh x) es)
ps2-run x k ps2 one es =
    let same : (after (fresh x) es).plain.settings ≡ x = after-settings (fresh x) es ∙ fresh-settings x in
    ps2_rules (after (fresh x) es) (after_kept (fresh x) es (fresh_kept x k)) (ap (λ (y : Settings). y.at_mode) same ∙ ps2)
    (ap (λ (y : Settings). y.second_set) same ∙ one)
