-- What reading a record answers: its first fault in order, or what it says.
use Rattle.std.specs.Prelude.{ℕ, List, [], ◌∷◌, Option, Result, ◌==◌, nat_lt}
use Rattle.tables.specs.Tables.{entries}
use Rattle.boxes.specs.Boxes.{Ends}
use Rattle.boxes.specs.Views.{sides_of}
use Rattle.records.specs.declared.reason.Reason.TheVariants.{BadField}
use Rattle.records.specs.declared.reason.Refusal.{Refusal}
use Rattle.records.specs.declared.instruction.Instruction.{Instruction}
use Rattle.records.specs.declared.target.Target.{Target}
use Rattle.records.specs.declared.fields.Fields.{Fields}
use Rattle.records.specs.Numbers.{nat16}
use Rattle.records.specs.Places.{limit_place, sides_start, program_start, targets_start}
use Rattle.records.specs.Rules.{Content}
use Rattle.records.specs.Entries.{side_faults, sides_from, instruction_faults, instructions_from, target_faults, targets_from}
use Rattle.records.specs.Layouts.{Counts, counts_in, layout_fault}
use Rattle.records.specs.Faults.{when, or_else, first, first_of, listed, unless}

-- what is wrong with the limit: it lies from 1 to 32,768
abbrev pub limit_fault : List ℕ → Option Refusal
limit_fault s =
    first (when (nat16 s limit_place == 0) BadField limit_place
    ∷ when (nat_lt 32768 (nat16 s limit_place)) BadField limit_place
    ∷ [])

-- the first fault of the sides of a record with these counts
abbrev pub sides_fault : List ℕ → Counts → Option Refusal
sides_fault s q = first_of (side_faults s sides_start) q.knobs

-- the first fault of the instructions of a record with these counts
abbrev pub program_fault : List ℕ → Counts → Option Refusal
program_fault s q = first_of (instruction_faults s q.knobs (program_start q.knobs)) q.instructions

-- the first fault of the targets of a record with these counts
abbrev pub targets_fault : List ℕ → Counts → Option Refusal
targets_fault s q = first_of (target_faults s q.instructions (targets_start q.knobs q.instructions)) q.targets

-- the first field, as they stand in a record with these counts, that breaks its rule
abbrev pub field_fault : List ℕ → Counts → Option Refusal
field_fault s q = first (limit_fault s ∷ sides_fault s q ∷ program_fault s q ∷ targets_fault s q ∷ [])

-- why a record is refused: the first fault in order, the fields last
abbrev pub fault : List ℕ → Option Refusal
fault s = or_else (layout_fault s) (field_fault s (counts_in s))

-- the sides of a record with these counts
abbrev pub sides_read : List ℕ → Counts → List Ends
sides_read s q = listed (sides_from s sides_start) q.knobs

-- the instructions of a record with these counts
abbrev pub program_read : List ℕ → Counts → List Instruction
program_read s q = listed (instructions_from s (program_start q.knobs)) q.instructions

-- the targets of a record with these counts
abbrev pub targets_read : List ℕ → Counts → List Target
targets_read s q = listed (targets_from s (targets_start q.knobs q.instructions)) q.targets

-- what a record with these counts says
abbrev pub content_in : List ℕ → Counts → Content
content_in s q = record {
  limit = nat16 s limit_place;
  sides = sides_read s q;
  program = program_read s q;
  targets = targets_read s q;
}

-- what reading a record answers, for every byte string
abbrev pub verdict : List ℕ → Result Content Refusal
verdict s = unless (fault s) (content_in s (counts_in s))

-- what the fields of a job say: the entries of each table
abbrev pub content : Fields → Content
content f = record {
  limit = f.limit;
  sides = sides_of f.start;
  program = entries f.program;
  targets = entries f.targets;
}
