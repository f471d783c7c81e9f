-- What a cutter may leave of a box, the rules of cutters, and how cutters are put together.
use Rattle.std.specs.Prelude.{◌≡◌, ℕ, zero, suc, ◌<◌, ◌≤◌, min, max, Bool, true, false, cond, List, length, ℤ, Some, None, Option, nat_lt, slice_index_or}
use Rattle.boxes.specs.Boxes.{Ends, In, Part, good_side, nought}
use Rattle.boxes.specs.Views.{sides_of}
use Rattle.boxes.specs.declared.region.Region.{Region}
use Rattle.ranges.specs.declared.row.Row.{Row}
use Rattle.records.specs.Rules.{Content}
use Rattle.jobs.specs.declared.job.Job.{Job}
use Rattle.jobs.specs.Meaning.{MayLock}
use Rattle.jobs.specs.Reading.{Sound, content_of}

-- what a cutter leaves of a box, by the job and the box: a box, or nothing
abbrev pub Meaning : Type 0
Meaning = Content → List Ends → Option (List Ends)

-- a box of 1 to 4 sides, each a knob's
pub record Proper (box : List Ends) : Type 0 where
  pub some : 1 ≤ length box
  pub few : length box ≤ 4
  pub sides : (n : ℕ) → n < length box → good_side (slice_index_or box n nought) ≡ true

-- what is left is a box, and each of its settings is one of the box that was lent
abbrev pub LeftIn : List Ends → Option (List Ends) → Type 0
LeftIn box None = Unit {0}
LeftIn box (Some a) = Proper a × Part a box

-- the setting is in what is left
abbrev pub StillIn : List ℤ → Option (List Ends) → Type 0
StillIn setting None = ⊥
StillIn setting (Some a) = In a setting

-- the rules of every cutter, for jobs that keep every rule and boxes of knobs' sides
pub record Lawful (f : Meaning) : Type 0 where
  -- what is left lies within the box
  pub inside : (c : Content) (box : List Ends) → Sound c → Proper box → LeftIn box (f c box)
  -- no setting that may lock is lost
  pub keeps : (c : Content) (box : List Ends) → Sound c → Proper box → (setting : List ℤ) → In box setting → MayLock c setting → StillIn setting (f c box)
  -- a box that is not inside the start box is left as it is
  pub elsewhere : (c : Content) (box : List Ends) → (Part box c.sides → ⊥) → f c box ≡ Some box

-- what is left with so many scratch rows: with fewer than instructions, the box as it is
abbrev pub left_with : ℕ → Meaning → Meaning
left_with rows f c box = cond (nat_lt rows (length c.program)) (Some box) (f c box)

-- what is left, of the code's own values
abbrev pub cut_to : Meaning → Job → Region → List Row → Option (List Ends)
cut_to f j r rows = left_with (length rows) f (content_of j) (sides_of r)

-- an answer and the box beside it: the box lies within the one that was lent; where something is left, no setting that may lock is lost, and where nothing is, there was none
pub record Safe (c : Content) (before : List Ends) (answer : Bool) (after : List Ends) : Type 0 where
  pub within : Part after before
  pub kept : answer ≡ true → (setting : List ℤ) → In before setting → MayLock c setting → In after setting
  pub none : answer ≡ false → (setting : List ℤ) → In before setting → MayLock c setting → ⊥

-- every box is left as it is
abbrev pub idle : Meaning
idle c box = Some box

-- what f makes of what is left, if anything is
abbrev pub and_then : {A B : Type 0} → Option A → (A → Option B) → Option B
and_then None f = None
and_then (Some x) f = f x

-- first one cutter, then another on what it left
abbrev pub in_turn : Meaning → Meaning → Meaning
in_turn f g c box = and_then (f c box) (g c)

-- one step n times over, or until nothing is left
abbrev pub again : (List Ends → Option (List Ends)) → ℕ → List Ends → Option (List Ends)
again f zero box = Some box
again f (suc n) box = and_then (f box) (again f n)

-- one cutter n times over
abbrev pub repeated : ℕ → Meaning → Meaning
repeated n f c = again (f c) n

-- how often a repeat turns: from 1 to 16, other counts as the nearer end
abbrev pub turns : ℕ → ℕ
turns n = max 1 (min n 16)
