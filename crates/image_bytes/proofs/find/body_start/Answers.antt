-- `image_bytes::find::body_start` meets its contract. None stands for the length.
-- Assumes nothing.
use Rattle.std.proofs.Common.{◌≡◌, ℕ, ◌+◌, ◌≤◌, List, length, sym, ◌∙◌}
use Rattle.std.specs.Prelude.{Option, Some, None, MatchOption, unwrap_or}
use Rattle.image_bytes.specs.Find.{body_size, body_start}
use Rattle.image_bytes.proofs.Laws.Find.{body_start-none}
use Rattle.image_bytes.proofs.find.body_start.Goals as goal

or_length : (bytes : List ℕ) (start : Option ℕ) →
    MatchOption start (body_size bytes ≡ 0) (λ s. (s ≡ body_start bytes) × (s + 8 ≤ length bytes)) →
    unwrap_or start (length bytes) ≡ body_start bytes
or_length bytes None none = sym (body_start-none bytes none)
or_length bytes (Some s) (here, room) = here

pub returns : goal.returns
returns c = c.unwrap_or.ensures ∙ or_length c.args.bytes.now c.start_of.result c.start_of.ensures
