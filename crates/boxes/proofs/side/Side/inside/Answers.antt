use Rattle.std.proofs.Common.{rules}
use Rattle.boxes.specs.Views.{ends_of}
use Rattle.boxes.proofs.Nesting.{covers_decides}
use Rattle.boxes.proofs.side.Side.inside.Goals as goal

pub returns-clause-decides : goal.returns-clause-decides
returns-clause-decides c = covers_decides (ends_of c.args.other.now) (ends_of c.args.self.now) _ c.args.self.now.order (search rules)
