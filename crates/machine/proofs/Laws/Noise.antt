-- Noise (document 02, W2): a frame whose start bit is wrong changes nothing, and its answer is the number of the check that refuses it, or 0,
-- with the lines as they stood. Assumes nothing.
use mathlib.Core.Path.{◌≡◌, refl, ap, sym, ◌∙◌}
use mathlib.Core.List.{◌∷◌}
use mathlib.Core.Logic.{◌⊎◌, ⊎_elim}
use lib.Dec.{eqb}
use borrow.Author.Tests.{eqb-true, eqb-false}
use Rattle.translation.specs.Bits.{bit}
use Rattle.translation.specs.Frames.{Check, noise, check}
use Rattle.translation.proofs.Frame.{check-noise}
use Rattle.translation.proofs.Tests.{split}
use Rattle.machine.specs.State.{Machine, lift}
use Rattle.machine.specs.Devices.{keyboard_frame, mouse_frame}
use Rattle.machine.specs.Events.{Event, value, refusal, accept, step, byte_read, old_mark, pulse, lines, reply, refused_reply, answer}
use Rattle.machine.proofs.Laws.Events.{accepted-value, accept_keyboard, accept-mouse, step-accepted, step-refused, reply-accepted, reply-refused}

-- A frame from the keyboard or the mouse whose start bit is 1. One of more than eleven bits is refused by 2.
pub record Noise (e : Event) : Type 0 where
  pub kind : (e.kind ≡ 4) ⊎ (e.kind ≡ 5)
  pub start : bit (value e) 0 ≡ 1

module _ (m : Machine) (e : Event) (n : Noise e) where
  found : refusal m.plain e ≡ 0 → check (value e) ≡ noise
  found a =
      let fits = accepted-value m.plain e a in
      check-noise (value e) (n.start, ⊎_elim (λ (k : e.kind ≡ 4). simp k at fits) (λ (k : e.kind ≡ 5). simp k at fits) n.kind)

  accept-noise : refusal m.plain e ≡ 0 → accept m e ≡ m
  unfolding keyboard_frame mouse_frame
  accept-noise a =
      ⊎_elim
      (λ k. accept_keyboard m e k ∙ ap (λ (c : Check). keyboard_frame c m) (found a))
      (λ k. accept-mouse m e k ∙ ap (λ (c : Check). lift (mouse_frame c) m) (found a))
      n.kind

  pub step-noise : step m e ≡ m
  step-noise =
      split (eqb (refusal m.plain e) 0)
      (λ a. step-accepted m e (eqb-true _ _ a) ∙ accept-noise (eqb-true _ _ a))
      (λ r. step-refused m e (eqb-false _ _ r))

  -- nothing is read or pulsed
  quiet : (0 ∷ byte_read m.plain e.kind ∷ old_mark m.plain e.kind ∷ lines m.plain (pulse m.plain e)) ≡ refused_reply m.plain 0
  quiet = ⊎_elim (λ (k : e.kind ≡ 4). simp k) (λ (k : e.kind ≡ 5). simp k) n.kind

  reply-noise : reply m.plain e m.plain ≡ refused_reply m.plain (refusal m.plain e)
  reply-noise =
      split (eqb (refusal m.plain e) 0)
      (λ a.
      let none = eqb-true _ _ a in
      reply-accepted _ e _ none ∙ quiet ∙ ap (refused_reply m.plain) (sym none))
      (λ r. reply-refused _ e _ _ refl (eqb-false _ _ r))

  pub answer-noise : answer m e ≡ refused_reply m.plain (refusal m.plain e)
  answer-noise = ap (λ (after : Machine). reply m.plain e after.plain) step-noise ∙ reply-noise
