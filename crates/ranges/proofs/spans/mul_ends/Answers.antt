use Rattle.std.proofs.Common.{arith}
use Rattle.std.proofs.lemmas.Int.{to_z-of_z}
use Rattle.ranges.specs.HullsLemmas.{ends_at}
use Rattle.ranges.proofs.spans.mul_ends.Goals as goal

pub returns : goal.returns
returns c = ends_at _ _ _ _ (grind (arith, to_z-of_z)) (grind (arith, to_z-of_z))
