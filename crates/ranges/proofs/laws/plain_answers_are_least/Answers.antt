use Rattle.ranges.proofs.Leasts.{least_answers}
use Rattle.ranges.proofs.laws.plain_answers_are_least.Goals as goal

pub returns : goal.returns
returns c = least_answers
