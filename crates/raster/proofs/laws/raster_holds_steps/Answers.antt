use Rattle.raster.specs.Lawfulness.{held_steps}
use Rattle.raster.proofs.laws.raster_holds_steps.Goals as goal

pub returns : goal.returns
returns c = held_steps
