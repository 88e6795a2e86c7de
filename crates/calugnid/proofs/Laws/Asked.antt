-- What can be asked before there is an event, and what the options read back name. Assumes nothing.
use Prim.Native.Nat.{ℕ, ◌≤◌, ◌/◌, ◌%◌}
use native.Mathlib.Omega.{arith}
use mathlib.Core.Path.{◌≡◌, refl, ap, ◌∙◌}
use mathlib.Core.Bool.{Bool, true, false}
use mathlib.Core.List.{List}
use lib.Dec.{eqb}
use borrow.Author.Tests.{le-ltb}
use Rattle.translation.specs.Bits.{word, nibble}
use Rattle.machine.specs.Settings.{Settings, settings_of}
use Rattle.machine.specs.State.{Public}
use Rattle.machine.specs.Events.{event, limit, refusal}
use Rattle.state.specs.View.{options_of}
use Rattle.calugnid.specs.Values.{event_of}

-- An event of a kind is refused by the same check whatever its value, up to the largest that the kind takes.
pub refusal_any : (p : Public) (kind value : ℕ) → value ≤ limit kind → refusal p (event kind 0 0) ≡ refusal p (event_of kind value)
unfolding refusal
refusal_any p kind value fits =
    simp (le-ltb (limit kind) (word 0 0) (omega arith), le-ltb (limit kind) (word (value % 256) (value / 256)) (omega (arith, fits)))

pub ready_any : (p : Public) (kind : ℕ) {n : ℕ} → n ≡ refusal p (event kind 0 0) → (value : ℕ) → value ≤ limit kind →
    eqb n 0 ≡ eqb (refusal p (event_of kind value)) 0
ready_any p kind number value fits = ap (λ (k : ℕ). eqb k 0) (number ∙ refusal_any p kind value fits)

-- The options read back name the same settings.
named_again : (a b c : Bool) (version : ℕ) (table : List ℕ) →
    settings_of (nibble a b c false) version table ≡ record { mouse_lock = a; at_mode = b; second_set = c; version = version; table = table }
unfolding nibble
named_again false false false version table = refl
named_again false false true version table = refl
named_again false true false version table = refl
named_again false true true version table = refl
named_again true false false version table = refl
named_again true false true version table = refl
named_again true true false version table = refl
named_again true true true version table = refl

pub options_name : (x : Settings) → settings_of (options_of x false) x.version x.table ≡ x
options_name x = named_again x.mouse_lock x.at_mode x.second_set x.version x.table
