use Rattle.std.proofs.Common.{◌≡◌, ◌+ℤ◌, ◌-ℤ◌, sym, ap, ◌∙◌, arith, w64, SFits}
use Rattle.std.proofs.lemmas.Int.{ints, to_z-of_z}
use Rattle.std.proofs.lemmas.Bool.{cond-true, cond-false}
use Rattle.ranges.specs.Spans.{span_ends}
use Rattle.ranges.specs.Fitting.{fit_in}
use Rattle.ranges.specs.HullsLemmas.{ends_at}
use Rattle.raster.specs.Rasters.{raster, raster_inward, floored}
use Rattle.raster.proofs.making.make_inward.Goals as goal

pub returns-then-not-fits : goal.returns-then-not-fits
unfolding raster_inward
returns-then-not-fits c = sym (cond-false _ _ _ (sym c.if-not-fits.ensures))

pub floor-requires : goal.floor-requires
floor-requires c =
    let o = fit_in (span_ends c.args.span) (sym c.if-not-fits.ensures) in
    (omega (arith, ints), omega (arith, ints))

pub overflow_sub-span : goal.overflow_sub-span
overflow_sub-span c =
    let o = fit_in (span_ends c.args.span) (sym c.if-not-fits.ensures) in
    omega (arith, ints)

pub floor-requires-2 : goal.floor-requires-2
floor-requires-2 c =
    let o = fit_in (span_ends c.args.span) (sym c.if-not-fits.ensures) in
    (omega (arith, ints), omega (arith, ints))

pub returns : goal.returns
unfolding raster_inward
returns c =
    let s = c.args.span in
    let t = c.args.power.log in
    let b = c.args.base in
    let o = fit_in (span_ends s) (sym c.if-not-fits.ensures) in
    let fb = c.ranges.base in
    let fl : SFits w64 s.low = omega (arith, ints) in
    let fh : SFits w64 s.high = omega (arith, ints) in
    let gl : SFits w64 (b -ℤ s.low) = omega (arith, ints) in
    let gh : SFits w64 (s.high -ℤ b) = omega (arith, ints) in
    let ul : SFits w64 c.floor.result = record { sfits = c.floor.type_inv } in
    let uh : SFits w64 c.floor-2.result = record { sfits = c.floor-2.type_inv } in
    let vl = c.floor.ensures.bound in
    let vh = c.floor-2.ensures.bound in
    let wl : SFits w64 (b -ℤ c.floor.result) = omega (arith, ints) in
    let wh : SFits w64 (b +ℤ c.floor-2.result) = omega (arith, ints) in
    let el : c.floor.result ≡ floored t (b -ℤ s.low) = simp to_z-of_z at c.floor.ensures.value in
    let eh : c.floor-2.result ≡ floored t (s.high -ℤ b) = simp to_z-of_z at c.floor-2.ensures.value in
    let e = simp to_z-of_z at c.make.ensures in
    e ∙ ap (λ i. raster i t) (ends_at _ _ _ _ (ap (λ z. b -ℤ z) el) (ap (λ z. b +ℤ z) eh)) ∙ sym (cond-true _ _ _ (sym c.if-not-fits.ensures))
