use Rattle.std.proofs.Common.{rules}
use Rattle.ranges.specs.Kind.{ends}
use Rattle.inverses.proofs.Sums.{lesser_inverse}
use Rattle.inverses.proofs.of_lesser.Goals as goal

pub returns-clause-sound : goal.returns-clause-sound
returns-clause-sound c = lesser_inverse (ends c.args.z) (ends c.args.x) (ends c.args.y) _ (search rules)
