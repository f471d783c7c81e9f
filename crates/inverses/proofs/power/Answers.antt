use Rattle.std.proofs.Common.{◌≡◌, ◌^◌, ap, arith}
use Rattle.std.proofs.lemmas.Int.{ints}
use Rattle.std.proofs.lemmas.Nat.{one_shl}
use Rattle.inverses.specs.Inverses.{divisor}
use Rattle.inverses.proofs.Sums.{divisor_bound}
use Rattle.inverses.proofs.power.Goals as goal

pub returns : goal.returns
returns c =
    let n = c.min.result in
    let e : 2 ^ n ≡ divisor c.args.by = ap (λ k. 2 ^ k) c.min.ensures in
    let m = divisor_bound c.args.by in
    let s = one_shl n 32 (omega arith) in
    omega (arith, ints)
