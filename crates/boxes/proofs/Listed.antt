-- The sides of a region, as a list.
use Rattle.std.proofs.Common.{◌≡◌, ℕ, ◌<◌, length, get_or}
use Rattle.std.proofs.lemmas.List.{get_or-map, length-map}
use Rattle.tables.specs.Tables.{entries}
use Rattle.boxes.specs.Boxes.{nought}
use Rattle.boxes.specs.Views.{ends_of, sides_of}
use Rattle.boxes.specs.declared.region.Region.{Region}
use Rattle.boxes.specs.declared.side.Side.{Side}
use Rattle.boxes.proofs.Counting.{InOrder, sides_in_order}

-- there are as many as the table has entries
pub knobs_long : (r : Region) → length (sides_of r) ≡ length (entries r.sides)
knobs_long r = length-map (entries r.sides) ends_of

-- each is the region's own
pub side_at : (r : Region) (n : ℕ) (d : Side) → n < length (entries r.sides) → get_or (sides_of r) n nought ≡ ends_of (get_or (entries r.sides) n d)
side_at r n d h = get_or-map ends_of (entries r.sides) n d nought h

pub region_in_order : (r : Region) → InOrder (sides_of r)
region_in_order r = sides_in_order (entries r.sides)
