-- The text that is printed for a record.
use Rattle.std.specs.Prelude.{ℕ, List, [], ◌∷◌, ◌++◌, Some, None, Ok, Err, codes, Option, Result}
use Rattle.boxes.specs.Boxes.{Ends}
use Rattle.boxes.specs.Views.{ends_text}
use Rattle.ranges.specs.Kind.{Keeper, Kind}
use Rattle.ranges.specs.Plains.{plain_keeper, plain_kind}
use Rattle.raster.specs.Rasters.{raster_keeper, raster_kind}
use Rattle.records.specs.declared.reason.Refusal.{Refusal}
use Rattle.records.specs.Reasons.{refused}
use Rattle.records.specs.Rules.{Content}
use Rattle.jobs.specs.Words.{counts_text}
use Rattle.evaluation.specs.Judging.{judged}
use Rattle.evaluation.specs.Words.{word}
use Rattle.forward_backward.specs.Backward.{forward_backward}

-- what the targets of a job say of its whole start box, by a kind of range
abbrev pub start_word : Kind → Content → List ℕ
start_word k c = word (judged k c c.sides)

-- the line on a job: its numbers, and what its targets say by plain and by raster ranges
abbrev pub accepted : Content → List ℕ
accepted c =
    codes "accepted " ++ (counts_text c
    ++ (codes " plain " ++ (start_word plain_kind c
    ++ (codes " raster " ++ start_word raster_kind c))))

-- a side: its ends, behind a space
abbrev pub side_text : Ends → List ℕ
side_text e = codes " " ++ ends_text e

-- the sides of a box, one after the other
abbrev pub sides_text : List Ends → List ℕ
sides_text [] = []
sides_text (e ∷ box) = side_text e ++ sides_text box

-- what is left of a box
abbrev pub left_text : Option (List Ends) → List ℕ
left_text None = codes " nothing"
left_text (Some box) = sides_text box

-- what forward-backward leaves of a job's start box, by a kind of range with this name
abbrev pub left_line : List ℕ → Kind → Keeper → Content → List ℕ
left_line name k n c = name ++ (codes " leaves" ++ left_text (forward_backward k n c c.sides))

-- what is said of a job: one line on the job, and one on what is left by each kind of range
abbrev pub job_text : Content → List ℕ
job_text c = accepted c ++ (codes "\n" ++ (left_line (codes "plain") plain_kind plain_keeper c ++ (codes "\n" ++ left_line (codes "raster") raster_kind raster_keeper c)))

-- the text for an answer of the reading
abbrev pub said : Result Content Refusal → List ℕ
said (Ok c) = job_text c
said (Err d) = refused d
