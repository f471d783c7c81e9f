-- What a job means: the value of each register at a setting, and which settings meet the job.
use Rattle.std.specs.Prelude.{◌≡◌, ℕ, ◌<◌, List, length, ℤ, pos, ◌≤ℤ◌, slice_index_or}
use Rattle.boxes.specs.Boxes.{Ends, In}
use Rattle.ranges.specs.declared.row.Row.{Row}
use Rattle.ranges.specs.Bounds.{Bounded, point}
use Rattle.ranges.specs.Kind.{Holds, Kind}
use Rattle.records.specs.declared.instruction.Instruction.{Instruction}
use Rattle.records.specs.declared.target.Target.{Target}
use Rattle.records.specs.Rules.{Content, no_target}
use Rattle.jobs.specs.Registers.{Wired, no_instruction, no_row, value, values}

-- what each knob reads at a setting
abbrev pub knob_at : List ℤ → ℕ → ℤ
knob_at setting n = slice_index_or setting n (pos 0)

-- the value of register k at a setting
abbrev pub register : List Instruction → List ℤ → ℕ → ℤ
register program setting k = slice_index_or (values program (knob_at setting)) k (pos 0)

-- each of the first n rows holds its register's value at every setting of the box
abbrev pub RowsHold : Kind → List Instruction → List Ends → ℕ → List Row → Type 0
RowsHold k program box n rows = (setting : List ℤ) → In box setting → (j : ℕ) → j < n → Holds k (slice_index_or rows j no_row) (register program setting j)

-- the target's register lies from its low end to its high end
pub record Hits (program : List Instruction) (setting : List ℤ) (t : Target) : Type 0 where
  pub from : t.low ≤ℤ register program setting t.register
  pub to : register program setting t.register ≤ℤ t.high

-- the setting meets the job: it hits every target
abbrev pub Meets : Content → List ℤ → Type 0
Meets c setting = (n : ℕ) → n < length c.targets → Hits c.program setting (slice_index_or c.targets n no_target)

-- what is promised of a setting that is said to lock
abbrev pub Locks : Content → List ℤ → Type 0
Locks c setting = Meets c setting

-- what is denied of a setting that is said not to lock, and what no cutter may lose
abbrev pub MayLock : Content → List ℤ → Type 0
MayLock c setting = Meets c setting

-- the values solve the program: there is one for each instruction, and each is what its instruction makes of the others
pub record Solves (program : List Instruction) (knob : ℕ → ℤ) (vs : List ℤ) : Type 0 where
  pub long : length vs ≡ length program
  pub each : (k : ℕ) → k < length program → slice_index_or vs k (pos 0) ≡ value knob (slice_index_or program k no_instruction) vs

-- the values of a program's registers solve it, and nothing else does
abbrev pub OneSolution : Type 0
OneSolution = (n : ℕ) (program : List Instruction) → Wired n program → (knob : ℕ → ℤ) →
    Solves program knob (values program knob) × ((vs : List ℤ) → Solves program knob vs → vs ≡ values program knob)

-- at every setting of the start box every register is within the bound
abbrev pub RegistersBounded : Content → Type 0
RegistersBounded c = (setting : List ℤ) → In c.sides setting → (k : ℕ) → k < length c.program → Bounded (point (register c.program setting k))
