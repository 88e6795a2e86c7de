-- `image::load::load` meets its contract. It is the load with the built-in table.
-- Assumes nothing.
use Rattle.image.proofs.Laws.Promises.{loaded-built_in}
use Rattle.image.proofs.load.load.Goals as goal

pub returns : goal.returns
returns c = loaded-built_in c.built_in.ensures c.load_with_table.ensures
