-- Where registers can be worked out over a box, and what scratch memory holds then.
use Rattle.std.specs.Prelude.{ℕ, cond, List, ◌++◌, length, drop, Some, None, Ok, Err, Option, Result, nat_lt}
use Rattle.boxes.specs.Boxes.{Ends, nested}
use Rattle.boxes.specs.Views.{sides_of}
use Rattle.boxes.specs.declared.region.Region.{Region}
use Rattle.ranges.specs.declared.row.Row.{Row}
use Rattle.ranges.specs.Kind.{Kind}
use Rattle.records.specs.Rules.{Content}
use Rattle.jobs.specs.declared.job.Job.{Job}
use Rattle.jobs.specs.Reading.{content_of}
use Rattle.jobs.specs.Registers.{registers}
use Rattle.evaluation.specs.declared.unfit.Unfit.{Unfit}
use Rattle.evaluation.specs.declared.unfit.Unfit.TheVariants.{Scratch, Elsewhere}

-- why the registers of a job cannot be worked out over a box in so many rows: too few rows, or else a box that is not inside the start box
abbrev pub unfit : Content → List Ends → ℕ → Option Unfit
unfit c box rows = cond (nat_lt rows (length c.program)) (Some Scratch) (cond (nested box c.sides) None (Some Elsewhere))

-- the same of the code's own values
abbrev pub hindrance : Job → Region → List Row → Option Unfit
hindrance j r rows = unfit (content_of j) (sides_of r) (length rows)

-- the answer, unless there is a reason against it
abbrev pub fitting : {A : Type 0} → Option Unfit → A → Result A Unfit
fitting None x = Ok x
fitting (Some e) x = Err e

-- the rows of the registers, and behind them the rows as they were
abbrev pub worked : Kind → Content → List Ends → List Row → List Row
worked k c box rows = registers k c.program box ++ drop (length c.program) rows

-- scratch memory afterwards: with a reason against the work it is as it was
abbrev pub scratch : Option Unfit → Kind → Content → List Ends → List Row → List Row
scratch None k c box rows = worked k c box rows
scratch (Some e) k c box rows = rows

-- the same of the code's own values
abbrev pub left_in : Kind → Job → Region → List Row → List Row
left_in k j r rows = scratch (hindrance j r rows) k (content_of j) (sides_of r) rows
