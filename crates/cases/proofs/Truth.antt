-- Every worked case is true, by working it out.
use Rattle.std.proofs.Common.{refl}
use lib.Count.{count_trailing_zeros}
use Rattle.whole.specs.Quotients.{ceiling, floor}
use Rattle.whole.specs.Roots.{grown, root_down, root_of, root_up}
use Rattle.boxes.specs.Boxes.{nested}
use Rattle.boxes.specs.Views.{side}
use Rattle.ranges.specs.Plains.{plain}
use Rattle.raster.specs.Rasters.{raster, raster_inward}
use Rattle.inverses.specs.Inverses.{back_factor, back_square}
use Rattle.jobs.specs.Registers.{fill}
use Rattle.forward_backward.specs.Backward.{backward}
use Rattle.cases.specs.Cases.{AllTrue}
use Rattle.cases.specs.Worked.{worked}

pub all_true : AllTrue worked
unfolding plain raster raster_inward fill count_trailing_zeros nested side backward back_factor back_square floor ceiling root_down root_up root_of grown
all_true = (refl, (refl, (refl, (refl, (refl, (refl, (refl, (refl, (refl, (refl, (refl, (refl, (refl, (refl, (refl, (refl, (refl, (refl, (refl, (refl, tt))))))))))))))))))))
