-- `trackball::counters::Axis::stepped` meets its contract: the sum that is held, and where it differs, are the definition's.
-- Assumes nothing.
use Rattle.std.proofs.Common.{true, false, rules}
use mir.Syntax.{w16}
use mir.Val.{SFits}
use Rattle.trackball.proofs.Laws.Counters.{stepped_made}
use Rattle.trackball.proofs.counters.Axis.stepped.Goals as goal

pub returns-then-self : goal.returns-then-self
returns-then-self c =
    let fits : SFits w16 c.args.self.sum = search rules in
    rw c.if-self.true
    (stepped_made true fits c.ranges.step (record { sfits = c.saturating_add-sum.type_inv }) (record { sfits = c.clamp-held.type_inv }) c.saturating_add-sum.ensures c.clamp-held.ensures.value)

pub returns-else-self : goal.returns-else-self
returns-else-self c =
    let fits : SFits w16 c.args.self.sum = search rules in
    rw c.if-self.false
    (stepped_made false fits c.ranges.step (record { sfits = c.saturating_add-sum.type_inv }) (record { sfits = c.clamp-held.type_inv }) c.saturating_add-sum.ensures c.clamp-held.ensures.value)
