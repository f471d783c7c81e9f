use Rattle.std.proofs.Common.{◌≡◌, arith}
use Rattle.std.proofs.lemmas.Int.{ints, to_z-of_z}
use Rattle.whole.specs.Roots.{root_down, root_up}
use Rattle.ranges.specs.Kind.{ends}
use Rattle.inverses.proofs.Squares.{above_is, around_is, below_is, square_inverse}
use Rattle.inverses.proofs.of_square.Goals as goal

pub returns-then-x-s : goal.returns-then-x-s
returns-then-x-s c =
    let z = ends c.args.z in
    let x = ends c.args.x in
    let s : c.root_up-s.result ≡ root_up z.lo = grind (arith, to_z-of_z) in
    let m : c.root_down-m.result ≡ root_down z.hi = grind (arith, to_z-of_z) in
    let e = above_is z x _ _ (omega (arith, ints)) (omega (arith, ints)) (omega (arith, ints)) in
    record { value = e; sound = square_inverse z x _ e }

pub returns-then-x-s-2 : goal.returns-then-x-s-2
returns-then-x-s-2 c =
    let z = ends c.args.z in
    let x = ends c.args.x in
    let s : c.root_up-s.result ≡ root_up z.lo = grind (arith, to_z-of_z) in
    let m : c.root_down-m.result ≡ root_down z.hi = grind (arith, to_z-of_z) in
    let e = below_is z x _ _ (omega (arith, ints)) (omega (arith, ints)) (omega (arith, ints)) (omega (arith, ints)) in
    record { value = e; sound = square_inverse z x _ e }

pub returns-else-x-s-2 : goal.returns-else-x-s-2
returns-else-x-s-2 c =
    let z = ends c.args.z in
    let x = ends c.args.x in
    let s : c.root_up-s.result ≡ root_up z.lo = grind (arith, to_z-of_z) in
    let m : c.root_down-m.result ≡ root_down z.hi = grind (arith, to_z-of_z) in
    let e = around_is z x _ _ (omega (arith, ints)) (omega (arith, ints)) (omega (arith, ints)) (omega (arith, ints)) in
    record { value = e; sound = square_inverse z x _ e }
