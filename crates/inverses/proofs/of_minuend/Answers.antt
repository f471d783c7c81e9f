use Rattle.std.proofs.Common.{rules}
use Rattle.ranges.specs.Kind.{ends}
use Rattle.inverses.proofs.Sums.{minuend_inverse}
use Rattle.inverses.proofs.of_minuend.Goals as goal

pub returns-clause-sound : goal.returns-clause-sound
returns-clause-sound c = minuend_inverse (ends c.args.z) (ends c.args.y) _ (search rules)
