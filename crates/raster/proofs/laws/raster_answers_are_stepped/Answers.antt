use Rattle.raster.specs.Lawfulness.{stepped_answers}
use Rattle.raster.proofs.laws.raster_answers_are_stepped.Goals as goal

pub returns : goal.returns
returns c = stepped_answers
