use Rattle.std.proofs.Common.{◌≡◌, None, ◌∙◌, sym, rules}
use Rattle.std.proofs.lemmas.Bool.{false≢true}
use Rattle.ranges.specs.Kind.{ends, rowed}
use Rattle.raster.specs.Rasters.{raster_row}
use Rattle.raster.specs.Stepping.{raster_no}
use Rattle.raster.proofs.making.make_of.Goals as goal

pub returns-in_err-new : goal.returns-in_err-new
returns-in_err-new c =
    let r = c.args.row in
    let e : rowed raster_row c.from_residual.result ≡ None = search rules in
    e ∙ sym (raster_no (ends r) r.step (λ f. absurd (false≢true (c.in_err-new.ensures.valid.1 f.limit))))
