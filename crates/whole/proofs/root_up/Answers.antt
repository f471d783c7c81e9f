use Rattle.std.proofs.Common.{◌≡◌, pos, ◌+ℤ◌, ◌-ℤ◌, arith, w64, SFits, to_z, of_z}
use Rattle.std.proofs.lemmas.Int.{ints, to_z-of_z}
use Rattle.whole.specs.Roots.{root_up}
use Rattle.whole.proofs.Roots.{least_of, least_none, least_root}
use Rattle.whole.proofs.root_up.Goals as goal

pub returns-then-n-le0-clause-value : goal.returns-then-n-le0-clause-value
returns-then-n-le0-clause-value c = least_none c.args.n (omega (arith, ints))

pub returns-else-n-le0 : goal.returns-else-n-le0
returns-else-n-le0 c =
    let f = c.ranges.n in
    let h : SFits w64 (c.args.n -ℤ pos 1) = omega (arith, ints) in
    let g = least_of c.args.n c.isqrt.result (omega (arith, ints)) (simp to_z-of_z at c.isqrt.ensures) in
    let e : to_z w64 (of_z w64 (to_z w64 (of_z w64 c.isqrt.result) +ℤ pos 1)) ≡ root_up c.args.n = grind (arith, to_z-of_z) in
    record { value = e; root = rw e (least_root c.args.n) }
