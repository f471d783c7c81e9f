use Rattle.ranges.proofs.Growth.{growing_answers}
use Rattle.ranges.proofs.laws.plain_answers_grow.Goals as goal

pub returns : goal.returns
returns c = growing_answers
