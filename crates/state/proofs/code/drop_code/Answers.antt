-- `state::code::drop_code` meets its contract. Sixteen zeros stand where the code stood, and then its length is 0.
-- Assumes nothing.
use Rattle.std.proofs.Common.{rules, ◌≡◌, List, ℕ, sym, subst, slice_set}
use borrow.Rule.Slice.PartMut.{put_mid}
use Rattle.machine.specs.DataPort.{dropped}
use Rattle.machine.proofs.Laws.KeptDataPort.{dropped-kept}
use Rattle.state.specs.Changed.{Changed}
use Rattle.state.proofs.Laws.View.{cleared, filled-cleared}
use Rattle.state.proofs.Laws.Changed.{kept_where, stored-dropped}
use Rattle.state.proofs.code.drop_code.Goals as goal

pub returns : goal.returns
returns c =
    let entry = c.args.s.now in
    let all : put_mid 12 16 entry c.fill.new.self ≡ cleared 16 entry =
    filled-cleared entry (search rules) (c.fill.ensures.after (λ _ e. e)) in
    kept_where
    (subst (λ (t : List ℕ). Changed dropped entry (slice_set t 10 0)) (sym all) (stored-dropped entry (search rules)))
    (λ unlocked k. dropped-kept k unlocked)
