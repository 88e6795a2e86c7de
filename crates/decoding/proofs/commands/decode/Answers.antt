-- `decoding::commands::decode` meets its contract. What the command leaves is looked up by the command as it was heard, which leaves the same as the one that is understood.
-- Assumes nothing.
use mathlib.Core.Path.{ap, ◌∙◌}
use borrow.Author.Rules.{rules}
use Rattle.state.specs.View.{public}
use Rattle.machine.specs.Commands.{pending_of, cell_named}
use Rattle.decoding.proofs.Laws.{heard_leaves}
use Rattle.decoding.proofs.commands.decode.Goals as goal

pub returns : goal.returns
returns c =
    let known = c.heard-known.ensures in
    let given = c.args in
    let (code, cell) = heard_leaves (public given.s.now).settings given.c (search rules) in
    record {
      command = known;
      pending = c.pending_of.ensures ∙ ap pending_of known ∙ code;
      cell = c.cell_named.ensures ∙ ap cell_named known ∙ cell;
      pulse = c.pulse_of-pulse.ensures;
    }
