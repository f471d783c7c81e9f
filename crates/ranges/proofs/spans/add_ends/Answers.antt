use Rattle.std.proofs.Common.{arith}
use Rattle.std.proofs.lemmas.Int.{ints}
use Rattle.ranges.specs.HullsLemmas.{ends_at}
use Rattle.ranges.proofs.spans.add_ends.Goals as goal

pub returns : goal.returns
returns c = ends_at _ _ _ _ (omega (arith, ints)) (omega (arith, ints))
