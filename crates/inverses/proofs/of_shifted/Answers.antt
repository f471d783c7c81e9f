use Rattle.std.proofs.Common.{rules}
use Rattle.ranges.specs.Kind.{ends}
use Rattle.inverses.proofs.Sums.{shifted_inverse}
use Rattle.inverses.proofs.of_shifted.Goals as goal

pub returns-clause-sound : goal.returns-clause-sound
returns-clause-sound c = shifted_inverse c.args.by (ends c.args.z) _ (search rules)
