-- What the targets of a job say of a box.
use Rattle.std.specs.Prelude.{ℕ, Bool, cond, List, length, get_or, ℤ, count_by, Result, MatchResult, ◌==◌, nat_lt, slice_index_or}
use Rattle.boxes.specs.Boxes.{Ends, In}
use Rattle.boxes.specs.Views.{sides_of}
use Rattle.boxes.specs.declared.region.Region.{Region}
use Rattle.ranges.specs.declared.row.Row.{Row}
use Rattle.ranges.specs.Kind.{Kind}
use Rattle.records.specs.declared.target.Target.{Target}
use Rattle.records.specs.Rules.{Content}
use Rattle.jobs.specs.declared.job.Job.{Job}
use Rattle.jobs.specs.Meaning.{Locks, MayLock}
use Rattle.jobs.specs.Reading.{content_of}
use Rattle.jobs.specs.Registers.{no_row, registers}
use Rattle.evaluation.specs.declared.says.Says.{Says}
use Rattle.evaluation.specs.declared.says.Says.TheVariants.{Within, Apart, Open}
use Rattle.evaluation.specs.declared.unfit.Unfit.{Unfit}
use Rattle.evaluation.specs.Laws.{Only, Refused}

-- each row of scratch memory, as the row of a range of the kind
abbrev pub taken : Kind → List Row → ℕ → Row
taken k rows n = k.fixed (slice_index_or rows n no_row)

-- every number that the row of the target's register holds is within the target
abbrev pub target_within : Kind → (ℕ → Row) → Target → Bool
target_within k row t = k.within (row t.register) t.low t.high

-- none is
abbrev pub target_apart : Kind → (ℕ → Row) → Target → Bool
target_apart k row t = k.apart (row t.register) t.low t.high

-- what so many targets say, by how many are within and how many apart: all are within, or else some is apart, or else neither
abbrev pub concluded : ℕ → ℕ → ℕ → Says
concluded targets within apart = cond (within == targets) Within (cond (nat_lt 0 apart) Apart Open)

-- what targets say of the rows of registers
abbrev pub said_by : Kind → List Target → (ℕ → Row) → Says
said_by k targets row = concluded (length targets) (count_by (target_within k row) targets) (count_by (target_apart k row) targets)

-- what the targets of a job say of a box, by a kind of range
abbrev pub judged : Kind → Content → List Ends → Says
judged k c box = said_by k c.targets (λ n. get_or (registers k c.program box) n no_row)

-- what each answer says of the settings of the box: all lock, none may lock, or there is more than one
abbrev pub Truth : Content → List Ends → Says → Type 0
Truth c box Within = (setting : List ℤ) → In box setting → Locks c setting
Truth c box Apart = (setting : List ℤ) → In box setting → MayLock c setting → ⊥
Truth c box Open = (setting : List ℤ) → Only box setting → ⊥

-- what an answer says of the settings of the region, and what a refusal says
abbrev pub Truly : Job → Region → List Row → Result Says Unfit → Type 0
Truly j r rows answer = MatchResult answer (Truth (content_of j) (sides_of r)) (Refused (content_of j) (sides_of r) (length rows))
