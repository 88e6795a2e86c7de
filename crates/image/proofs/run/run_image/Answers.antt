-- `image::run::run_image` meets its contract. It is the run with the built-in table.
-- Assumes nothing.
use Rattle.image.proofs.Laws.Run.{ran_built_in}
use Rattle.image.proofs.run.run_image.Goals as goal

pub returns : goal.returns
returns c = ran_built_in c.built_in.ensures c.run_image_with_table.ensures
