-- The body rules of a machine, `Kept`, and those of bytes, `Rules`, say the same: of the state's bytes and the machine that they stand for.
-- Assumes nothing.
use mathlib.Core.Path.{◌≡◌, refl, ap, sym, subst, ◌∙◌}
use mathlib.Core.Bool.{Bool, true, false, not}
use mathlib.Core.List.{List, ◌++◌}
use Prim.Native.Nat.{ℕ, zero, suc, ◌+◌, ◌-◌, ◌/◌, ◌%◌, ◌≤◌, ◌<◌}
use native.Mathlib.Omega.{arith}
use lib.ListN.{length, get_or, take, drop, replicate, length-take, length-drop}
use lib.Seq.{take-append_seam, drop-append_seam, get_or-drop}
use lib.Dec.{eqb}
use Rattle.std.specs.List.{list_all}
use Rattle.std.proofs.lemmas.List.Sums.{AllPass-from_list_all, list_all-from_AllPass}
use Rattle.std.proofs.lemmas.Grind.{get_or_default_zero}
use borrow.Author.Tests.{ne_eqb, eqb-true, eqb-false, not-true}
use Rattle.translation.specs.Bits.{has, nibble}
use Rattle.translation.specs.KeyTable.{table_refusal}
use Rattle.translation.proofs.Lists.{Below, below_take, below_drop, length_part}
use Rattle.machine.specs.Settings.{Settings}
use Rattle.machine.specs.State.{Machine, Ports}
use Rattle.machine.specs.Kept.{Kept}
use Rattle.machine.proofs.Laws.Bounds.{nibble_below}
use Rattle.machine.proofs.Laws.Bits.{nibble_1, nibble_2, nibble_3, nibble-byte, latches_below, latches-byte, overlay_below, eqb-nibble}
use Rattle.state.specs.View.{state_length, added, body, given, state_of, at, view}
use Rattle.state.proofs.Laws.Flags.{flags_full, flags-mouse, flags-locked, flags_below}
use Rattle.state.proofs.Laws.Code.{code_long, code-byte}
use Rattle.state.proofs.Laws.View.{ram_of}
use Rattle.state.proofs.Laws.Body.{tidied, code_part, ram-part, byte-part, Tidy}
use Rattle.body_rules.specs.Rules.{is_zero, nonzero}
use Rattle.body_rules.proofs.Laws.Rules.{CommonRules, AddedRules, Rules}

-- ---- the machine of a state that keeps the rules
-- bytes 60-63
module _ (s : List ℕ) (r : AddedRules s) where
  added_tidy : (k : ℕ) → tidied k (at s (60 + k)) ≡ at s (60 + k)
  added_tidy zero = nibble-byte (at s 60) r.options
  added_tidy (suc zero) = refl
  added_tidy (suc (suc zero)) =
      let x = at s 62 in
      ap (λ (b : Bool). nibble (has x 0) (has x 1) b (has x 3)) (sym r.no_p24) ∙ nibble-byte x r.high_latches
  added_tidy (suc (suc (suc zero))) =
      let x = at s 63 in
      ap (λ (b : Bool). nibble (has x 0) b false false) (sym (ne_eqb (x / 2 % 2) 1 (λ e. omega (arith, e, r.time_out))))
      ∙ latches-byte x (omega (arith, r.time_out))
  added_tidy (suc (suc (suc (suc k)))) = refl

module _ (s : List ℕ) (long : length s ≡ state_length) (rules : Rules s) where
  abbrev r : CommonRules s
  r = rules.common

  abbrev more : AddedRules s
  more = rules.added

  abbrev code : List ℕ
  code = take 16 (drop 12 s)

  -- what stands for nothing in it is 0
  pub rules_tidy : Tidy s
  rules_tidy =
      record {
        long = long;
        flags = r.flags;
        latches = r.latches;
        overlay = omega (arith, r.overlay);
        size = omega (arith, r.count);
        rest = λ k low high.
            let past : at s 10 + (k - at s 10) ≡ k = omega arith in
            let shown : k - at s 10 < length (drop (at s 10) code) = omega (arith, length-drop (at s 10) code, code_long s long) in
            code-byte s k high
            ∙ ap (λ (j : ℕ). get_or code j 0) (sym past)
            ∙ sym (get_or-drop (at s 10) code (k - at s 10) 0)
            ∙ eqb-true _ 0 (AllPass-from_list_all is_zero (drop (at s 10) code) r.after (k - at s 10) 0 shown);
        beyond = added_tidy s more;
      }

  count-shown : length (take (at s 10) code) ≡ at s 10
  count-shown = length-take (at s 10) code ∙ omega (arith, code_long s long, r.count)

  -- its table is one that a start takes
  pub view-kept : Below 256 s → table_refusal (drop 65 s) ≡ 0 → Kept (view s)
  view-kept bytes passes =
      record {
        output = bytes 0;
        source = r.source;
        pins = bytes 2;
        latches = λ one ps2. let e = more.first_ps2 one ps2 in (ap (λ (x : ℕ). has x 0) e, ap (λ (x : ℕ). has x 1) e);
        p25 = λ ps2. (more.ps2 ps2).0;
        first_set = more.first_set;
        input_latches = more.input_latches;
        ttim = λ ps2. ap (λ (x : ℕ). has x 0) (more.ps2 ps2).1;
        pending = r.pending;
        cell = r.cell;
        no_cell = r.no_cell;
        nibble = r.nibble;
        no_nibble = λ e. r.no_nibble (omega (arith, r.overlay, eqb-false (at s 6) 1 e));
        even_nibble = more.even_nibble;
        to = r.to;
        sent = bytes 9;
        no_sent = r.no_sent;
        code = omega (arith, count-shown, r.count);
        code_bytes = λ k h. (each k h, below k);
        locked = λ e. let l = r.locked e in (omega (arith, count-shown, l.0), l.1, l.2);
        unlocked = r.unlocked;
        ram = ap suc (length_part 29 31 s (omega arith));
        cells = subst (Below 256) (sym (ram_of s long)) (below_take 256 32 (drop 28 s) (omega arith) (below_drop 256 28 s bytes));
        mode_byte = r.mode;
        version = bytes 64;
        table = passes;
        entries = below_drop 256 65 s bytes;
      }
    where
      below : Below 256 (take (at s 10) code)
      below = below_take 256 (at s 10) code (omega arith) (below_take 256 16 (drop 12 s) (omega arith) (below_drop 256 12 s bytes))

      each : (k : ℕ) → k < length (take (at s 10) code) → 1 ≤ get_or (take (at s 10) code) k 0
      each k h =
          let byte = get_or (take (at s 10) code) k 0 in
          omega (arith, eqb-false byte 0 (not-true (eqb byte 0) (AllPass-from_list_all nonzero (take (at s 10) code) r.code k 0 h)))

-- ---- the body of a machine that keeps the rules
list_all-zeros : (n : ℕ) → list_all is_zero (replicate n 0) ≡ true
list_all-zeros zero = refl
list_all-zeros (suc n) = list_all-zeros n

module _ (m : Machine) (k : Kept m) where
  common_rules : CommonRules (state_of m)
  unfolding state_of body
  common_rules =
      let p = m.plain in
      let c = m.secret.code in
      record {
        flags = flags_below p;
        source = λ e. flags_full p ∙ k.source (sym (flags-mouse p) ∙ e);
        latches = latches_below p.ports.p20 p.ports.p21;
        pending = k.pending;
        cell = k.cell;
        no_cell = k.no_cell;
        overlay = overlay_below p.host.overlay;
        nibble = k.nibble;
        no_nibble = λ e. k.no_nibble (sym (eqb-nibble p.host.overlay) ∙ ne_eqb (nibble p.host.overlay false false false) 1 (omega (arith, e)));
        to = k.to;
        no_sent = k.no_sent;
        count = k.code;
        code = ap (λ (l : List ℕ). list_all nonzero (take (length c) l)) (code_part m k.code) ∙ ap (list_all nonzero) (take-append_seam c _) ∙ nonzeros;
        after =
            ap (λ (l : List ℕ). list_all is_zero (drop (length c) l)) (code_part m k.code)
            ∙ ap (list_all is_zero) (drop-append_seam c _)
            ∙ list_all-zeros (16 - length c);
        locked = λ e. k.locked (sym (flags-locked p) ∙ e);
        unlocked = λ e. k.unlocked (sym (flags-locked p) ∙ e);
        mode = omega (arith, ap (λ (l : List ℕ). get_or l 0 0) (ram-part m k.code k.ram), k.mode_byte);
      }
    where
      nonzeros : list_all nonzero m.secret.code ≡ true
      nonzeros =
          list_all-from_AllPass nonzero m.secret.code
          (λ j d h. ap not (ne_eqb (get_or m.secret.code j d) 0 (omega (arith, (k.code_bytes j h).0, get_or_default_zero m.secret.code j d h))))

  abbrev x : Settings
  x = m.plain.settings

  abbrev q : Ports
  q = m.plain.ports

  byte : (j : ℕ) → at (state_of m) (60 + j) ≡ get_or (added m.plain ++ given x.version x.table) j 0
  byte = byte-part m k.code k.ram

  second : has (at (state_of m) 60) 2 ≡ x.second_set
  second = ap (λ (n : ℕ). has n 2) (byte 0) ∙ nibble_2 x.mouse_lock x.at_mode x.second_set q.high_allowed

  at-mode : has (at (state_of m) 60) 1 ≡ x.at_mode
  at-mode = ap (λ (n : ℕ). has n 1) (byte 0) ∙ nibble_1 x.mouse_lock x.at_mode x.second_set q.high_allowed

  allowed : has (at (state_of m) 60) 3 ≡ q.high_allowed
  allowed = ap (λ (n : ℕ). has n 3) (byte 0) ∙ nibble_3 x.mouse_lock x.at_mode x.second_set q.high_allowed

  three : nibble true true false false ≡ 3
  unfolding nibble
  three = refl

  none : nibble false false false false ≡ 0
  unfolding nibble
  none = refl

  even : x.second_set ≡ true → has (at (state_of m) 7) 0 ≡ false
  unfolding state_of body
  even = k.even_nibble

  added_rules : AddedRules (state_of m)
  added_rules =
      record {
        options = omega (arith, byte 0, nibble_below x.mouse_lock x.at_mode x.second_set q.high_allowed);
        input_latches = omega (arith, byte 1, k.input_latches);
        high_latches = omega (arith, byte 2, nibble_below q.p22 q.p23 false q.p25);
        no_p24 = ap (λ (n : ℕ). has n 2) (byte 2) ∙ nibble_2 q.p22 q.p23 false q.p25;
        time_out = omega (arith, byte 3, overlay_below m.plain.errors.ttim);
        first_set = λ one. let f = k.first_set (sym second ∙ one) in (byte 1 ∙ f.0, allowed ∙ f.1);
        first_ps2 = λ one ps2.
            let first = sym second ∙ one in
            let mode = sym at-mode ∙ ps2 in
            let (p22, p23) = k.latches first mode in
            byte 2 ∙ (λ i. nibble (p22 i) (p23 i) false (k.p25 mode i)) ∙ three;
        ps2 = λ ps2.
            let mode = sym at-mode ∙ ps2 in (
              ap (λ (n : ℕ). has n 3) (byte 2) ∙ nibble_3 q.p22 q.p23 false q.p25 ∙ k.p25 mode,
              byte 3 ∙ (λ i. nibble (k.ttim mode i) false false false) ∙ none,
            );
        even_nibble = λ two. even (sym second ∙ two);
      }

  pub state_rules : Rules (state_of m)
  state_rules = record { common = common_rules; added = added_rules }
