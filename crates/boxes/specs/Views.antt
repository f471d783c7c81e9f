-- What the values of the code mean: the ends of a side, the sides of a region.
use Rattle.std.specs.Prelude.{ℕ, cond, List, ◌++◌, map, Some, None, codes, Option}
use Rattle.std.specs.Fmt.{signed_decimal}
use Rattle.boxes.specs.declared.side.Side.{Side}
use Rattle.boxes.specs.declared.region.Region.{Region}
use Rattle.tables.specs.Tables.{entries}
use Rattle.boxes.specs.Boxes.{Ends, good_side}

-- the ends of a side
abbrev pub ends_of : Side → Ends
ends_of s = record { lo = s.low; hi = s.high }

-- the ends in decimal
abbrev pub ends_text : Ends → List ℕ
ends_text e = signed_decimal e.lo ++ (codes ".." ++ signed_decimal e.hi)

-- a region, as the list of its sides
abbrev pub sides_of : Region → List Ends
sides_of r = map ends_of (entries r.sides)

-- the ends of a side that may be absent
abbrev pub shown : Option Side → Option Ends
shown None = None
shown (Some s) = Some (ends_of s)

-- the side with these ends, if there is one
unfoldable pub side : Ends → Option Ends
side e = cond (good_side e) (Some e) None
