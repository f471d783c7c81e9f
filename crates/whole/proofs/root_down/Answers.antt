use Rattle.std.proofs.Common.{arith}
use Rattle.std.proofs.lemmas.Int.{ints, to_z-of_z}
use Rattle.whole.proofs.Roots.{greatest_of, greatest_none}
use Rattle.whole.proofs.root_down.Goals as goal

pub returns-then-n-lt0-clause-value : goal.returns-then-n-lt0-clause-value
returns-then-n-lt0-clause-value c = greatest_none c.args.n (omega (arith, ints))

pub returns-else-n-lt0-clause-value : goal.returns-else-n-lt0-clause-value
returns-else-n-lt0-clause-value c =
    let f = c.ranges.n in
    let g = greatest_of c.args.n c.isqrt.result (omega (arith, ints)) (simp to_z-of_z at c.isqrt.ensures) in
    grind (arith, to_z-of_z)
