use Rattle.std.proofs.Common.{rules}
use Rattle.ranges.specs.Kind.{ends}
use Rattle.inverses.proofs.Sums.{subtrahend_inverse}
use Rattle.inverses.proofs.of_subtrahend.Goals as goal

pub returns-clause-sound : goal.returns-clause-sound
returns-clause-sound c = subtrahend_inverse (ends c.args.z) (ends c.args.x) _ (search rules)
