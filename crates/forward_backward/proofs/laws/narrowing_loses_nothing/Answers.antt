use Rattle.forward_backward.specs.Keeping.{narrowing_keeps}
use Rattle.forward_backward.proofs.laws.narrowing_loses_nothing.Goals as goal

pub returns : goal.returns
returns c = narrowing_keeps
