-- `image_bytes::find::find` meets its contract. The part is empty and at the end of the bytes where no body is found; else it goes on to the trailer.
-- Where a part lies is what the rule of a part says.
-- Assumes nothing.
use Rattle.std.proofs.Common.{refl, sym, arith}
use Rattle.image_bytes.proofs.Laws.Find.{body_start-none, found_nowhere, found_there}
use Rattle.image_bytes.proofs.find.find.Goals as goal

pub returns-in-None : goal.returns-in-None
returns-in-None c = found_nowhere (sym (body_start-none _ c.in-None.ensures)) refl refl

pub returns-in-Some : goal.returns-in-Some
returns-in-Some c =
    let (here, room) = c.in-Some.ensures in
    found_there here (λ past. omega (arith, past, room)) refl
