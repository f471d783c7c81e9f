use Rattle.std.proofs.Common.{arith, rules}
use Rattle.whole.proofs.Twos.{greatest_power}
use Rattle.raster.proofs.power.Power.zeros.Goals as goal

pub returns-clause-greatest : goal.returns-clause-greatest
returns-clause-greatest c =
    let l = c.args.self.limit in
    greatest_power c.args.self.log 64 c.args.n _ (omega arith) (search rules)
