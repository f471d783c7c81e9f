use Rattle.std.proofs.Common.{◌≡◌, sym, subst, rules}
use Rattle.ranges.specs.Kind.{Kept, rowed}
use Rattle.raster.specs.Rasters.{raster_keeper, raster_kind, raster_row}
use Rattle.raster.specs.Stepping.{raster_valid}
use Rattle.raster.specs.Inward.{raster_keeps}
use Rattle.raster.proofs.raster_range.RasterNarrowing.keep.Goals as goal

pub returns : goal.returns
returns c =
    let a = raster_row c.args.self.now in
    let s = c.args.span in
    let e : rowed raster_row c.cut.result ≡ raster_keeper.kept a s.low s.high = search rules in
    record { value = e; exact = subst (Kept raster_kind a s.low s.high) (sym e) (raster_keeps a s.low s.high (raster_valid c.args.self.now)) }
