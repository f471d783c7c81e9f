use Rattle.jobs.proofs.Values.{one_solution}
use Rattle.jobs.proofs.laws.one_solution.Goals as goal

pub returns : goal.returns
returns c = one_solution
