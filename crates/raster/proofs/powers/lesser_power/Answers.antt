use Rattle.std.proofs.Common.{◌≡◌, ◌-ℤ◌, ap, ◌∙◌, arith, w32, w64, SFits}
use Rattle.std.proofs.lemmas.Int.{ints, to_z-of_z}
use Rattle.raster.specs.Rasters.{zeros}
use Rattle.raster.proofs.powers.lesser_power.Goals as goal

pub returns : goal.returns
returns c =
    let a = c.args.a.now in
    let b = c.args.b.now in
    let d = a.low -ℤ b.low in
    let fa : SFits w32 a.low = omega (arith, ints) in
    let fb : SFits w32 b.low = omega (arith, ints) in
    let ga : SFits w64 a.low = omega (arith, ints) in
    let gb : SFits w64 b.low = omega (arith, ints) in
    let gd : SFits w64 d = omega (arith, ints) in
    let e : c.zeros.result.log ≡ zeros c.lesser.result.log d = simp to_z-of_z at c.zeros.ensures.value in
    e ∙ ap (λ t. zeros t d) c.lesser.ensures
