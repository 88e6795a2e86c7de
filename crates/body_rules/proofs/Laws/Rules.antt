-- Laws of the definitions in specs/Rules and specs/Added. Assumes nothing.
use mathlib.Core.Path.{◌≡◌, refl, ap}
use mathlib.Core.Bool.{true, false, cond, not}
use mathlib.Core.List.{List, ◌++◌}
use Prim.Native.Nat.{ℕ, ◌≤◌, ◌<◌}
use native.Mathlib.Omega.{arith}
use lib.ListN.{length, take, drop}
use lib.Dec.{eqb, leb, ltb}
use Rattle.std.specs.List.{list_all}
use borrow.Author.Tests.{lt-ltb, le-leb, eq-eqb, ne_eqb, ltb-true, leb-true, eqb-true, eqb-false, not-true}
use Rattle.translation.specs.Bits.{has}
use Rattle.body_rules.specs.Body.{flags_byte, latches_byte, pending_byte, cell_byte, overlay_byte, nibble_byte, sent_to_byte, sent_byte}
use Rattle.body_rules.specs.Body.{length_byte, position_byte, code_bytes, mode_byte, options_byte, input_latches_byte, high_latches_byte, time_out_byte}
use Rattle.body_rules.specs.Added.{at_mode, second_set, high_allowed, unused_kept, first_set_kept, ps2_kept, second_set_kept, added_kept}
use Rattle.body_rules.specs.Rules.{is_zero, nonzero}
use Rattle.body_rules.specs.Rules.{flags_kept, latches_kept, pending_kept, overlay_kept, sending_kept, code_kept, lock_kept, mode_kept, common_kept, body_kept}
use Rattle.translation.proofs.Lists.{front}
use Rattle.translation.proofs.Tests.{split, and_true, and_both, cond_shows, cond-passes}

-- ---- common_kept
-- the rules as facts
pub record CommonRules (b : List ℕ) : Type 0 where
  pub flags : flags_byte b < 128
  pub source : has (flags_byte b) 1 ≡ true → has (flags_byte b) 0 ≡ true
  pub latches : latches_byte b < 4
  pub pending : pending_byte b ≤ 7
  pub cell : pending_byte b ≡ 2 → (1 ≤ cell_byte b) × (cell_byte b ≤ 31)
  pub no_cell : (pending_byte b ≡ 2 → ⊥) → cell_byte b ≡ 0
  pub overlay : overlay_byte b ≤ 1
  pub nibble : nibble_byte b < 16
  pub no_nibble : overlay_byte b ≡ 0 → nibble_byte b ≡ 0
  pub to : sent_to_byte b ≤ 2
  pub no_sent : sent_to_byte b ≡ 0 → sent_byte b ≡ 0
  pub count : length_byte b ≤ 16
  pub code : list_all nonzero (take (length_byte b) (code_bytes b)) ≡ true
  pub after : list_all is_zero (drop (length_byte b) (code_bytes b)) ≡ true
  pub locked : has (flags_byte b) 6 ≡ true → (position_byte b < length_byte b) × (pending_byte b ≡ 0) × (sent_to_byte b ≡ 0)
  pub unlocked : has (flags_byte b) 6 ≡ false → position_byte b ≡ 0
  pub mode : mode_byte b < 128

module _ (b : List ℕ) where
  common_kept_rules : common_kept b ≡ true → CommonRules b
  unfolding common_kept flags_kept pending_kept overlay_kept sending_kept code_kept lock_kept
  common_kept_rules e =
      let s1 = and_true (flags_kept b) _ e in
      let s2 = and_true (latches_kept b) _ s1.1 in
      let s3 = and_true (pending_kept b) _ s2.1 in
      let s4 = and_true (overlay_kept b) _ s3.1 in
      let s5 = and_true (sending_kept b) _ s4.1 in
      let s6 = and_true (code_kept b) _ s5.1 in
      let s7 = and_true (lock_kept b) (mode_kept b) s6.1 in
      let flags = and_true (ltb (flags_byte b) 128) _ s1.0 in
      let source = cond_shows (has (flags_byte b) 1) _ _ flags.1 in
      let pending = and_true (leb (pending_byte b) 7) _ s3.0 in
      let cell = cond_shows (eqb (pending_byte b) 2) _ _ pending.1 in
      let overlay = and_true (leb (overlay_byte b) 1) _ s4.0 in
      let nibble = cond_shows (eqb (overlay_byte b) 0) _ _ overlay.1 in
      let to = and_true (leb (sent_to_byte b) 2) _ s5.0 in
      let sent = cond_shows (eqb (sent_to_byte b) 0) _ _ to.1 in
      let count = and_true (leb (length_byte b) 16) _ s6.0 in
      let code = and_true (list_all nonzero (take (length_byte b) (code_bytes b))) _ count.1 in
      let lock = cond_shows (has (flags_byte b) 6) _ _ s7.0 in
      record {
        flags = ltb-true _ _ flags.0;
        source = source.0;
        latches = ltb-true _ _ s2.0;
        pending = leb-true _ _ pending.0;
        cell = λ h. let t = and_true (leb 1 (cell_byte b)) _ (cell.0 (eq-eqb _ _ h)) in (leb-true _ _ t.0, leb-true _ _ t.1);
        no_cell = λ h. eqb-true _ _ (cell.1 (ne_eqb _ _ h));
        overlay = leb-true _ _ overlay.0;
        nibble =
            split (eqb (overlay_byte b) 0) (λ h. omega (arith, eqb-true (nibble_byte b) 0 (nibble.0 h))) (λ h. ltb-true _ _ (nibble.1 h));
        no_nibble = λ h. eqb-true _ _ (nibble.0 (eq-eqb _ _ h));
        to = leb-true _ _ to.0;
        no_sent = λ h. eqb-true _ _ (sent.0 (eq-eqb _ _ h));
        count = leb-true _ _ count.0;
        code = code.0;
        after = code.1;
        locked = λ h.
            let t = and_true (ltb (position_byte b) (length_byte b)) _ (lock.0 h) in
            let u = and_true (eqb (pending_byte b) 0) _ t.1 in
            (ltb-true _ _ t.0, eqb-true _ _ u.0, eqb-true _ _ u.1);
        unlocked = λ h. eqb-true _ _ (lock.1 h);
        mode = ltb-true _ _ s7.1;
      }

  rules_common_kept : CommonRules b → common_kept b ≡ true
  unfolding common_kept flags_kept pending_kept overlay_kept sending_kept code_kept lock_kept
  rules_common_kept r =
      and_both _ _ (and_both _ _ (lt-ltb _ _ r.flags) (cond-passes _ _ _ r.source (λ _. refl)))
      (and_both _ _ (lt-ltb _ _ r.latches)
      (and_both _ _ pending (and_both _ _ overlay (and_both _ _ sending (and_both _ _ code (and_both _ _ lock (lt-ltb _ _ r.mode)))))))
    where
      pending : pending_kept b ≡ true
      pending =
          and_both _ _ (le-leb _ _ r.pending)
          (cond-passes _ _ _
          (λ h. let c = r.cell (eqb-true _ _ h) in and_both _ _ (le-leb _ _ c.0) (le-leb _ _ c.1))
          (λ h. eq-eqb _ _ (r.no_cell (eqb-false _ _ h))))

      overlay : overlay_kept b ≡ true
      overlay =
          and_both _ _ (le-leb _ _ r.overlay)
          (cond-passes _ _ _ (λ h. eq-eqb _ _ (r.no_nibble (eqb-true _ _ h))) (λ h. lt-ltb _ _ r.nibble))

      sending : sending_kept b ≡ true
      sending =
          and_both _ _ (le-leb _ _ r.to) (cond-passes _ _ _ (λ h. eq-eqb _ _ (r.no_sent (eqb-true _ _ h))) (λ _. refl))

      code : code_kept b ≡ true
      code = and_both _ _ (le-leb _ _ r.count) (and_both _ _ r.code r.after)

      lock : lock_kept b ≡ true
      lock =
          cond-passes _ _ _
          (λ h. let l = r.locked h in and_both _ _ (lt-ltb _ _ l.0) (and_both _ _ (eq-eqb _ _ l.1) (eq-eqb _ _ l.2)))
          (λ h. eq-eqb _ _ (r.unlocked h))

-- ---- added_kept
pub record AddedRules (b : List ℕ) : Type 0 where
  pub options : options_byte b < 16
  pub input_latches : input_latches_byte b < 64
  pub high_latches : high_latches_byte b < 16
  pub no_p24 : has (high_latches_byte b) 2 ≡ false
  pub time_out : time_out_byte b < 2
  pub first_set : second_set b ≡ false → (input_latches_byte b ≡ 0x3F) × (high_allowed b ≡ false)
  pub first_ps2 : second_set b ≡ false → at_mode b ≡ false → high_latches_byte b ≡ 3
  pub ps2 : at_mode b ≡ false → (has (high_latches_byte b) 3 ≡ false) × (time_out_byte b ≡ 0)
  pub even_nibble : second_set b ≡ true → has (nibble_byte b) 0 ≡ false

module _ (b : List ℕ) where
  added_kept_rules : added_kept b ≡ true → AddedRules b
  unfolding added_kept unused_kept first_set_kept ps2_kept second_set_kept
  added_kept_rules e =
      let s1 = and_true (unused_kept b) _ e in
      let s2 = and_true (first_set_kept b) _ s1.1 in
      let s3 = and_true (ps2_kept b) (second_set_kept b) s2.1 in
      let u1 = and_true (ltb (options_byte b) 16) _ s1.0 in
      let u2 = and_true (ltb (input_latches_byte b) 64) _ u1.1 in
      let u3 = and_true (ltb (high_latches_byte b) 16) _ u2.1 in
      let u4 = and_true (not (has (high_latches_byte b) 2)) _ u3.1 in
      let first = cond_shows (second_set b) _ _ s2.0 in
      let ps2 = cond_shows (at_mode b) _ _ s3.0 in
      let both : (h : at_mode b ≡ false) → _ = λ h. and_true (cond (second_set b) true (eqb (high_latches_byte b) 3)) _ (ps2.1 h) in
      let second = cond_shows (second_set b) _ _ s3.1 in
      record {
        options = ltb-true _ _ u1.0;
        input_latches = ltb-true _ _ u2.0;
        high_latches = ltb-true _ _ u3.0;
        no_p24 = not-true _ u4.0;
        time_out = ltb-true _ _ u4.1;
        first_set = λ h. let t = and_true (eqb (input_latches_byte b) 0x3F) _ (first.1 h) in (eqb-true _ _ t.0, not-true _ t.1);
        first_ps2 = λ one h. eqb-true _ _ ((cond_shows (second_set b) _ _ (both h).0).1 one);
        ps2 = λ h. let t = and_true (not (has (high_latches_byte b) 3)) _ (both h).1 in (not-true _ t.0, eqb-true _ _ t.1);
        even_nibble = λ h. not-true _ (second.0 h);
      }

  rules_added_kept : AddedRules b → added_kept b ≡ true
  unfolding added_kept unused_kept first_set_kept ps2_kept second_set_kept
  rules_added_kept r = and_both _ _ unused (and_both _ _ first (and_both _ _ ps2 second))
    where
      unused : unused_kept b ≡ true
      unused =
          and_both _ _ (lt-ltb _ _ r.options)
          (and_both _ _ (lt-ltb _ _ r.input_latches)
          (and_both _ _ (lt-ltb _ _ r.high_latches) (and_both _ _ (ap not r.no_p24) (lt-ltb _ _ r.time_out))))

      first : first_set_kept b ≡ true
      first =
          cond-passes _ _ _ (λ _. refl) (λ h. let f = r.first_set h in and_both _ _ (eq-eqb _ _ f.0) (ap not f.1))

      ps2 : ps2_kept b ≡ true
      ps2 =
          cond-passes _ _ _ (λ _. refl)
          (λ h.
          let p = r.ps2 h in
          and_both _ _ (cond-passes _ _ _ (λ _. refl) (λ one. eq-eqb _ _ (r.first_ps2 one h))) (and_both _ _ (ap not p.0) (eq-eqb _ _ p.1)))

      second : second_set_kept b ≡ true
      second = cond-passes _ _ _ (λ h. ap not (r.even_nibble h)) (λ _. refl)

-- ---- body_kept
pub record Rules (b : List ℕ) : Type 0 where
  pub common : CommonRules b
  pub added : AddedRules b

module _ (b : List ℕ) where
  pub body_kept_rules : body_kept b ≡ true → Rules b
  unfolding body_kept
  body_kept_rules e =
      let both = and_true (common_kept b) (added_kept b) e in
      record { common = common_kept_rules b both.0; added = added_kept_rules b both.1 }

  pub rules_body_kept : Rules b → body_kept b ≡ true
  unfolding body_kept
  rules_body_kept r = and_both _ _ (rules_common_kept b r.common) (rules_added_kept b r.added)

-- they look at no byte behind the body
pub body_kept_front : (b rest : List ℕ) → length b ≡ 64 → body_kept (b ++ rest) ≡ body_kept b
unfolding body_kept common_kept flags_kept pending_kept overlay_kept sending_kept code_kept lock_kept added_kept unused_kept first_set_kept ps2_kept second_set_kept
body_kept_front b rest long = front 64 (λ (l : List ℕ). body_kept (l ++ rest) ≡ body_kept l) b (omega arith) refl
