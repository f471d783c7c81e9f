-- What the rows of a job's registers over a box promise, for every kind of range.
use Rattle.std.specs.Prelude.{◌≡◌, ℕ, ◌<◌, List, length, ℤ, Result, MatchResult, slice_index_or}
use Rattle.boxes.specs.Boxes.{Ends, In, Part}
use Rattle.boxes.specs.Views.{sides_of}
use Rattle.boxes.specs.declared.region.Region.{Region}
use Rattle.ranges.specs.declared.row.Row.{Row}
use Rattle.ranges.specs.Kind.{Holds, Kind}
use Rattle.records.specs.Rules.{Content}
use Rattle.jobs.specs.declared.job.Job.{Job}
use Rattle.jobs.specs.Meaning.{RowsHold, register}
use Rattle.jobs.specs.Reading.{content_of}
use Rattle.jobs.specs.Registers.{no_row, registers}
use Rattle.evaluation.specs.declared.unfit.Unfit.{Unfit}
use Rattle.evaluation.specs.declared.unfit.Unfit.TheVariants.{Scratch, Elsewhere}

-- the setting is the only one of the box
pub record Only (box : List Ends) (setting : List ℤ) : Type 0 where
  pub inside : In box setting
  pub alone : (other : List ℤ) → In box other → other ≡ setting

-- over a box of one setting each of the first n rows holds its register's value there, and nothing else
abbrev pub OneValued : Kind → Content → List Ends → ℕ → List Row → Type 0
OneValued k c box n rows = (setting : List ℤ) → Only box setting → (j : ℕ) → j < n → (x : ℤ) → Holds k (slice_index_or rows j no_row) x → x ≡ register c.program setting j

-- all registers were worked out: none is too large, each row holds its register's value at every setting, and only that where there is one setting
pub record Evaluated (k : Kind) (c : Content) (box : List Ends) (rows : List Row) : Type 0 where
  pub all : length (registers k c.program box) ≡ length c.program
  pub holds : RowsHold k c.program box (length c.program) rows
  pub one : OneValued k c box (length c.program) rows

-- what a refusal says: fewer rows than instructions, or a box with a setting that is not the start box's
abbrev pub Refused : Content → List Ends → ℕ → Unfit → Type 0
Refused c box rows Scratch = rows < length c.program
Refused c box rows Elsewhere = Part box c.sides → ⊥

-- what an answer says of the rows that are left, and what a refusal says
abbrev pub Lawfully : Kind → Job → Region → List Row → List Row → Result (Unit {0}) Unfit → Type 0
Lawfully k j r before after answer = MatchResult answer (λ _. Evaluated k (content_of j) (sides_of r) after) (Refused (content_of j) (sides_of r) (length before))
