use Rattle.std.proofs.Common.{arith, w32, SFits, rules}
use Rattle.std.proofs.lemmas.Int.{to_z-of_z}
use Rattle.ranges.specs.Kind.{ends}
use Rattle.inverses.proofs.quotients.greatest_quotient.Goals as goal

pub returns : goal.returns
returns c =
    let z = ends c.args.z in
    let y = ends c.args.y in
    let zl : SFits w32 z.lo = search rules in
    let zh : SFits w32 z.hi = search rules in
    let yl : SFits w32 y.lo = search rules in
    let yh : SFits w32 y.hi = search rules in
    grind (arith, to_z-of_z)
