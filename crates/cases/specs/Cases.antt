-- What a worked case asks, and when it is true.
use Rattle.std.specs.Prelude.{◌≡◌, ℕ, List, [], ◌∷◌, map, Some, None, Ok, Err, Option}
use Rattle.boxes.specs.Boxes.{Ends}
use Rattle.ranges.specs.declared.row.Row.{Row}
use Rattle.ranges.specs.Kind.{Keeper, Kind, ends}
use Rattle.records.specs.declared.instruction.Instruction.{Instruction}
use Rattle.records.specs.declared.reason.Refusal.{Refusal}
use Rattle.records.specs.Rules.{Content}
use Rattle.jobs.specs.Reading.{verdict}
use Rattle.evaluation.specs.declared.says.Says.{Says}
use Rattle.evaluation.specs.Judging.{judged}
use Rattle.forward_backward.specs.Operands.{operands}
use Rattle.forward_backward.specs.Backward.{forward_backward}

pub data Case : Type 0 where
  -- an operation on one range of a kind, and the ends of its answer
  one : Kind → (Kind → Row → Option Row) → Row → Option Ends → Case
  -- an operation on two, and the ends of its answer
  two : Kind → (Kind → Row → Row → Option Row) → Row → Row → Option Ends → Case
  -- the record of a job, and what it says
  accepts : List ℕ → Content → Case
  -- a byte string that is no job, and why
  refuses : List ℕ → Refusal → Case
  -- what the targets of a job say of its start box by a kind of range
  judges : Kind → Content → Says → Case
  -- what narrowing leaves of the rows of registers by the instruction of one of them, by ends
  narrows : Kind → Keeper → Instruction → ℕ → List Row → Option (List Ends) → Case
  -- what forward-backward leaves of a job's start box by a narrowing kind
  cuts : Kind → Keeper → Content → Option (List Ends) → Case

-- the ends of an answer, unless it is too large
abbrev pub answer_ends : Option Row → Option Ends
answer_ends None = None
answer_ends (Some r) = Some (ends r)

-- the ends of rows, if any are left
abbrev pub rows_ends : Option (List Row) → Option (List Ends)
rows_ends None = None
rows_ends (Some rows) = Some (map ends rows)

-- the case is true
abbrev pub True : Case → Type 0
True (one k op a e) = answer_ends (op k a) ≡ e
True (two k op a b e) = answer_ends (op k a b) ≡ e
True (accepts s c) = verdict s ≡ Ok c
True (refuses s d) = verdict s ≡ Err d
True (judges k c w) = judged k c c.sides ≡ w
True (narrows k n i j rows left) = rows_ends (operands k n i j rows) ≡ left
True (cuts k n c left) = forward_backward k n c c.sides ≡ left

-- every case of a list is true
abbrev pub AllTrue : List Case → Type 0
AllTrue [] = Unit {0}
AllTrue (c ∷ cs) = True c × AllTrue cs
