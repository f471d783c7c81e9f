use Rattle.std.proofs.Common.{sym, arith}
use Rattle.std.proofs.lemmas.Int.{to_z-of_z}
use Rattle.ranges.specs.Kind.{ends}
use Rattle.ranges.specs.HullsLemmas.{ends_at}
use Rattle.inverses.proofs.Factors.{factor_inverse, factor_none, factor_some}
use Rattle.inverses.proofs.of_factor.Goals as goal

pub returns-then-has_zero : goal.returns-then-has_zero
returns-then-has_zero c =
    let z = ends c.args.z in
    let y = ends c.args.y in
    let e = factor_none z y (sym c.if-has_zero.ensures) in
    record { value = e; sound = factor_inverse z y _ e }

pub returns : goal.returns
returns c =
    let z = ends c.args.z in
    let y = ends c.args.y in
    let e = factor_some z y _ (sym c.if-has_zero.ensures) (ends_at _ _ _ _ (grind (arith, to_z-of_z)) (grind (arith, to_z-of_z))) in
    record { value = e; sound = factor_inverse z y _ e }
