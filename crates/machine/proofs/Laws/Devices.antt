-- Laws of the definitions in specs/Devices. Assumes nothing.
use mathlib.Core.Path.{◌≡◌, sym, ◌∙◌}
use mathlib.Core.Bool.{Bool, true, false, ◌||◌}
use mathlib.Core.List.{◌∷◌}
use Prim.Native.Nat.{ℕ}
use lib.ListN.{length}
use borrow.Author.Tests.{eq-eqb, ne_eqb}
use Rattle.translation.specs.ScanCodes.{Translation, translate, raw}
use Rattle.machine.specs.State.{Public, Machine, lift}
use Rattle.machine.specs.Lock.{longest, begun}
use Rattle.machine.specs.Lines.{inhibited, mouse_inhibited, translates, put, put_mouse}
use Rattle.machine.specs.Devices.{not_taken, positioned, key_error, ignored, unlocked, key_matched, try}
use Rattle.machine.specs.Devices.{byte_delivered, translated}
use Rattle.machine.specs.Devices.{mouse_put, idle, timed_out}
use Rattle.machine.proofs.Laws.Lock.{code_typed-whole, code_typed-part, reached-part}

-- ---- key_error, byte_delivered: what is known of the lock and the key switch
module _ (m : Machine) {shut off : Bool} (is_shut : shut ≡ m.plain.locked) (is_off : off ≡ inhibited m.plain) where
  pub key_error_off : (shut || off) ≡ true → m ≡ lift key_error m
  unfolding key_error
  key_error_off h = simp (simp (is_shut, is_off) at h)

  pub key_error-on : (shut || off) ≡ false → lift (put 0xFF) m ≡ lift key_error m
  unfolding key_error
  key_error-on h = simp (simp (is_shut, is_off) at h)

  pub byte_delivered_off : (x : ℕ) → off ≡ true → m ≡ byte_delivered x m
  unfolding byte_delivered
  byte_delivered_off x h = simp (sym is_off ∙ h)

  pub byte_delivered-try : (x : ℕ) → off ≡ false → shut ≡ true → try x m ≡ byte_delivered x m
  unfolding byte_delivered
  byte_delivered-try x h l = simp (sym is_off ∙ h, sym is_shut ∙ l)

  pub byte_delivered-put : (x : ℕ) → off ≡ false → shut ≡ false → lift (put x) m ≡ byte_delivered x m
  unfolding byte_delivered
  byte_delivered-put x h l = simp (sym is_off ∙ h, sym is_shut ∙ l)

-- ---- try
module _ (m : Machine) (x : ℕ) {none : Bool} (is_none : none ≡ ignored x m.plain) where
  pub try-ignored : none ≡ true → m ≡ try x m
  unfolding try
  try-ignored h = simp (sym is_none ∙ h)

  -- k is the longest beginning, of all the code, that the keys end with
  module _ {k : ℕ} (is_longest : k ≡ longest m.secret.code (length m.secret.code) (x ∷ begun m.secret.code m.secret.position)) where
    pub try-opens : {n : ℕ} → none ≡ false → n ≡ length m.secret.code → k ≡ n → unlocked m ≡ try x m
    unfolding try key_matched
    try-opens h whole e = simp (sym is_none ∙ h, code_typed-whole m.secret.code _ is_longest (e ∙ whole))

    pub try-moves : {n : ℕ} → none ≡ false → n ≡ length m.secret.code → (k ≡ n → ⊥) → positioned k m ≡ try x m
    unfolding try key_matched
    try-moves h whole f =
        let part : k ≡ length m.secret.code → ⊥ = λ e. f (e ∙ sym whole) in
        simp (sym is_none ∙ h, code_typed-part m.secret.code _ is_longest part, sym (reached-part m.secret.code _ is_longest part))

-- ---- translated
module _ (p : Public) (b : ℕ) {t : Translation} {translating shut : Bool} (is_on : translating ≡ translates p) (is_shut : shut ≡ p.locked) where
  pub translated-on : {breaks : Bool} → (translating || shut) ≡ true → t ≡ translate p.settings.table b breaks → breaks ≡ p.breaks → t ≡ translated b p
  unfolding translated
  translated-on h made is_breaks = made ∙ simp (simp (is_on, is_shut) at h, is_breaks)

  pub translated_off : (translating || shut) ≡ false → t ≡ raw b → t ≡ translated b p
  unfolding translated
  translated_off h made = made ∙ simp (simp (is_on, is_shut) at h)

-- ---- mouse_put
module _ (m : Machine) (b : ℕ) {shut off : Bool} (is_shut : shut ≡ m.plain.locked) (is_off : off ≡ mouse_inhibited m.plain) where
  pub mouse_put_off : (shut || off) ≡ true → m ≡ lift (mouse_put b) m
  unfolding mouse_put
  mouse_put_off h = simp (simp (is_shut, is_off) at h)

  pub mouse_put-on : (shut || off) ≡ false → lift (put_mouse b) m ≡ lift (mouse_put b) m
  unfolding mouse_put
  mouse_put-on h = simp (simp (is_shut, is_off) at h)

-- ---- timed_out
pub timed_out-mouse : (m : Machine) → m.plain.sending.to ≡ 2 → lift (put_mouse 0xFE) (lift not_taken (lift idle m)) ≡ lift timed_out m
unfolding timed_out
timed_out-mouse m h = simp (eq-eqb _ _ h)

pub timed_out_keyboard : (m : Machine) → (m.plain.sending.to ≡ 2 → ⊥) → lift (put 0xFE) (lift not_taken (lift idle m)) ≡ lift timed_out m
unfolding timed_out
timed_out_keyboard m h = simp (ne_eqb _ _ h)
