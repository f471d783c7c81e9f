use Rattle.cases.proofs.Truth.{all_true}
use Rattle.cases.proofs.worked_cases.Goals as goal

pub returns : goal.returns
returns c = all_true
