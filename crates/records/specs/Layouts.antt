-- The layout of a record: its head, its counts and its size, and what is wrong with them first.
use Rattle.std.specs.Prelude.{◌≡◌, ℕ, ◌+◌, ◌≤◌, not, List, [], ◌∷◌, length, Option, ◌==◌, nat_le, nat_lt}
use Rattle.records.specs.declared.reason.Reason.TheVariants.{BadLength, BadVersion, BadShape}
use Rattle.records.specs.declared.reason.Refusal.{Refusal}
use Rattle.records.specs.Numbers.{byte, nat32}
use Rattle.records.specs.Places.{version_place, knobs_place, program_place, targets_place, end_place}
use Rattle.records.specs.Faults.{when, first}

-- how many knobs, instructions and targets a record has
pub record Counts : Type 0 where
  pub knobs : ℕ
  pub instructions : ℕ
  pub targets : ℕ

-- how many knobs the record has
abbrev pub knobs_in : List ℕ → ℕ
knobs_in s = byte s knobs_place

-- how many instructions the record has
abbrev pub instructions_in : List ℕ → ℕ
instructions_in s = byte s (program_place (knobs_in s))

-- how many targets the record has
abbrev pub targets_in : List ℕ → ℕ
targets_in s = byte s (targets_place (knobs_in s) (instructions_in s))

-- the three counts of the record
abbrev pub counts_in : List ℕ → Counts
counts_in s = record { knobs = knobs_in s; instructions = instructions_in s; targets = targets_in s }

-- where a record with these counts ends
abbrev pub ends_at : Counts → ℕ
ends_at q = end_place q.knobs q.instructions q.targets

-- what is wrong with the head: the length field counts what follows it, and the version is 1
abbrev pub head_fault : List ℕ → Option Refusal
head_fault s =
    first (when (nat_lt (length s) 5) BadLength (length s)
    ∷ when (not (nat32 s 0 + 4 == length s)) BadLength 0
    ∷ when (not (byte s version_place == 1)) BadVersion version_place
    ∷ [])

-- what is wrong with a count: it lies from 1 to `most`, in a byte that the record has
abbrev pub count_fault : List ℕ → ℕ → ℕ → Option Refusal
count_fault s at most =
    first (when (nat_le (length s) at) BadShape (length s)
    ∷ when (byte s at == 0) BadShape at
    ∷ when (nat_lt most (byte s at)) BadShape at
    ∷ [])

-- what is wrong with the size: the record ends at this place
abbrev pub size_fault : List ℕ → ℕ → Option Refusal
size_fault s end =
    first (when (nat_lt (length s) end) BadShape (length s)
    ∷ when (nat_lt end (length s)) BadShape end
    ∷ [])

-- what is wrong with the head, the counts or the size of the record
abbrev pub layout_fault : List ℕ → Option Refusal
layout_fault s =
    first (head_fault s
    ∷ count_fault s knobs_place 4
    ∷ count_fault s (program_place (knobs_in s)) 64
    ∷ count_fault s (targets_place (knobs_in s) (instructions_in s)) 8
    ∷ size_fault s (ends_at (counts_in s))
    ∷ [])

-- the counts lie within their limits, and ask for a record of this size
pub record Shaped (q : Counts) (size : ℕ) : Type 0 where
  pub some_knobs : 1 ≤ q.knobs
  pub few_knobs : q.knobs ≤ 4
  pub some_instructions : 1 ≤ q.instructions
  pub few_instructions : q.instructions ≤ 64
  pub some_targets : 1 ≤ q.targets
  pub few_targets : q.targets ≤ 8
  pub ends : ends_at q ≡ size
