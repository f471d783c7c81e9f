-- What reading a job record answers, the too large register last, and what that says of the record.
use Rattle.std.specs.Prelude.{◌≡◌, ℕ, ◌<◌, List, length, Option, Result, nat_lt, slice_index_or}
use Rattle.ranges.specs.Bounds.{Bounded}
use Rattle.ranges.specs.Plains.{plain_kind}
use Rattle.records.specs.declared.reason.Reason.TheVariants.{TooLarge}
use Rattle.records.specs.declared.reason.Refusal.{Refusal}
use Rattle.records.specs.Broken.{Broken, at}
use Rattle.records.specs.Faults.{or_else, unless, when}
use Rattle.records.specs.Rules.{Content, Keeps}
use Rattle.records.specs.Layouts.{counts_in}
use Rattle.records.specs.Verdicts.{content, content_in, fault}
use Rattle.jobs.specs.declared.job.Job.{Job}
use Rattle.jobs.specs.Registers.{expected, no_instruction, registers}

-- what a job says
abbrev pub content_of : Job → Content
content_of j = content j.fields

-- how many registers, from the first, have a plain range over the start box within the bound
abbrev pub bounded_upto : Content → ℕ
bounded_upto c = length (registers plain_kind c.program c.sides)

-- the first register, if any, whose plain range over the start box leaves the bound; its place is its number
abbrev pub large_fault : Content → Option Refusal
large_fault c = when (nat_lt (bounded_upto c) (length c.program)) TooLarge (bounded_upto c)

-- why a record is refused: the first fault of its fields, or else a register that is too large
abbrev pub job_fault : List ℕ → Option Refusal
job_fault s = or_else (fault s) (large_fault (content_in s (counts_in s)))

-- what reading a record answers, for every byte string
abbrev pub verdict : List ℕ → Result Content Refusal
verdict s = unless (job_fault s) (content_in s (counts_in s))

-- register k leaves the bound: the registers before it have plain ranges over the start box, and its own plain answer is beyond the bound
pub record Leaves (c : Content) (k : ℕ) : Type 0 where
  pub there : k < length c.program
  pub before : bounded_upto c ≡ k
  pub leaves : Bounded (expected c.sides (slice_index_or c.program k no_instruction) (registers plain_kind c.program c.sides)) → ⊥

-- the rules that a byte string breaks as the record of a job: those of its fields, and that no register leaves the bound
pub data JobBroken (s : List ℕ) : Refusal → Type 0 where
  in_fields : (e : Refusal) → Broken s e → JobBroken s e
  in_registers : (k : ℕ) → Leaves (content_in s (counts_in s)) k → JobBroken s (at TooLarge k)

-- what a job says keeps every rule: those of its fields, and that no register is too large over the start box
pub record Sound (c : Content) : Type 0 where
  pub fields : Keeps c
  pub bounded : bounded_upto c ≡ length c.program
