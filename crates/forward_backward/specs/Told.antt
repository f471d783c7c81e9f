-- What the answers of the code tell of what is left.
use Rattle.std.specs.Prelude.{◌≡◌, List, Some, None, Option}
use Rattle.boxes.specs.Boxes.{Ends}
use Rattle.boxes.specs.Views.{sides_of}
use Rattle.boxes.specs.declared.region.Region.{Region}
use Rattle.ranges.specs.declared.row.Row.{Row}
use Rattle.forward_backward.specs.Backward.{State}

-- what an answer tells of rows: nothing is left, or the rows are those
abbrev pub Left : Option (List Row) → Option (Unit {0}) → List Row → Type 0
Left None answer rows = answer ≡ None
Left (Some left) answer rows = (answer ≡ Some tt) × (rows ≡ left)

-- the box of a region, if there is one
abbrev pub boxed : Option Region → Option (List Ends)
boxed None = None
boxed (Some r) = Some (sides_of r)

-- what an answer tells of a state: nothing is left, or the box and the rows are the state's
abbrev pub TurnedTo : Option State → Option Region → List Row → Type 0
TurnedTo None answer rows = answer ≡ None
TurnedTo (Some s) answer rows = (boxed answer ≡ Some s.box) × (rows ≡ s.rows)
