-- The rules that a byte string breaks, the order in which they are looked at, and what an answer says of them.
use Rattle.std.specs.Prelude.{◌≡◌, ℕ, ◌+◌, ◌*◌, ◌<◌, ◌≤◌, false, ◌⊎◌, List, length, pos, negsuc, Ok, Err, Result, ◌≢◌}
use Rattle.boxes.specs.Boxes.{between}
use Rattle.records.specs.declared.reason.Reason.{Reason}
use Rattle.records.specs.declared.reason.Reason.TheVariants.{BadLength, BadVersion, BadShape, BadInstruction, BadField, TooLarge}
use Rattle.records.specs.declared.reason.Refusal.{Refusal}
use Rattle.records.specs.Numbers.{byte, nat16, nat32, int16, int32}
use Rattle.records.specs.Places.{version_place, knobs_place, limit_place, sides_start, side_size, program_place, program_start, instruction_size, targets_place, targets_start, target_size}
use Rattle.records.specs.Rules.{bound, bounded}
use Rattle.records.specs.Entries.{a_values, b_values, reached}
use Rattle.records.specs.Layouts.{knobs_in, instructions_in, targets_in, counts_in, ends_at}

-- a refusal: a reason at a place
abbrev pub at : Reason → ℕ → Refusal
at why p = record { reason = why; place = p }

-- the stage at which a reason is looked for: lengths, version, shape, then all fields, then sizes of registers
abbrev pub stage : Reason → ℕ
stage BadLength = 1
stage BadVersion = 2
stage BadShape = 3
stage BadInstruction = 4
stage BadField = 4
stage TooLarge = 5

-- the first is looked at before the second: at an earlier stage, or at the same stage at a lower place
abbrev pub Earlier : Refusal → Refusal → Type 0
Earlier d e = (stage d.reason < stage e.reason) ⊎ ((stage d.reason ≡ stage e.reason) × (d.place < e.place))

-- where the counts stand, and how large each may be
pub data Count (s : List ℕ) : ℕ → ℕ → Type 0 where
  knobs : Count s knobs_place 4
  instructions : Count s (program_place (knobs_in s)) 64
  targets : Count s (targets_place (knobs_in s) (instructions_in s)) 8

-- where side k stands
abbrev pub side_place : ℕ → ℕ
side_place k = sides_start + side_size * k

-- where instruction k stands
abbrev pub instruction_place : List ℕ → ℕ → ℕ
instruction_place s k = program_start (knobs_in s) + instruction_size * k

-- where target k stands
abbrev pub target_place : List ℕ → ℕ → ℕ
target_place s k = targets_start (knobs_in s) (instructions_in s) + target_size * k

-- the rules that a byte string breaks, each with the refusal that tells it
pub data Broken (s : List ℕ) : Refusal → Type 0 where
  -- there are fewer than 5 bytes
  short : length s < 5 → Broken s (at BadLength (length s))
  -- the length field is not the length of what follows it
  miscounted : 5 ≤ length s → (nat32 s 0 + 4 ≢ length s) → Broken s (at BadLength 0)
  -- the version is not 1
  version : (byte s version_place ≢ 1) → Broken s (at BadVersion version_place)
  -- a count lies past the end
  count_past_end : (p most : ℕ) → Count s p most → length s ≤ p → Broken s (at BadShape (length s))
  -- a count is 0, or more than there may be
  count_out : (p most : ℕ) → Count s p most → p < length s → ((byte s p ≡ 0) ⊎ (most < byte s p)) → Broken s (at BadShape p)
  -- the record ends before its last target does
  cut_off : length s < ends_at (counts_in s) → Broken s (at BadShape (length s))
  -- bytes follow the last target
  left_over : ends_at (counts_in s) < length s → Broken s (at BadShape (ends_at (counts_in s)))
  -- the limit is 0, or more than 32,768
  limit : ((nat16 s limit_place ≡ 0) ⊎ (32768 < nat16 s limit_place)) → Broken s (at BadField limit_place)
  -- the low end of a side is not a knob's number
  side_low : (k : ℕ) → k < knobs_in s
      → between (negsuc 16383) (int16 s (side_place k)) (pos 16383) ≡ false
      → Broken s (at BadField (side_place k))
  -- the high end of a side is below the low end, or above a knob's numbers
  side_high : (k : ℕ) → k < knobs_in s
      → between (int16 s (side_place k)) (int16 s (side_place k + 2)) (pos 16383) ≡ false
      → Broken s (at BadField (side_place k + 2))
  -- there is no such operation
  operation : (k : ℕ) → k < instructions_in s
      → 7 < byte s (instruction_place s k)
      → Broken s (at BadInstruction (instruction_place s k))
  -- the field a of an instruction is not one of the values that its operation allows
  field_a : (k : ℕ) → k < instructions_in s
      → a_values (byte s (instruction_place s k)) (knobs_in s) k ≤ byte s (instruction_place s k + 1)
      → Broken s (at BadInstruction (instruction_place s k + 1))
  -- the field b of an instruction is not one of the values that its operation allows
  field_b : (k : ℕ) → k < instructions_in s
      → b_values (byte s (instruction_place s k)) k ≤ byte s (instruction_place s k + 2)
      → Broken s (at BadInstruction (instruction_place s k + 2))
  -- the field c of an instruction lies further from 0 than its operation allows
  field_c : (k : ℕ) → k < instructions_in s
      → reached (byte s (instruction_place s k)) (int32 s (instruction_place s k + 3)) ≡ false
      → Broken s (at BadInstruction (instruction_place s k + 3))
  -- the register of a target is not filled
  register : (k : ℕ) → k < targets_in s
      → instructions_in s ≤ byte s (target_place s k)
      → Broken s (at BadField (target_place s k))
  -- the low end of a target lies outside the bound
  target_low : (k : ℕ) → k < targets_in s
      → bounded (int32 s (target_place s k + 1)) ≡ false
      → Broken s (at BadField (target_place s k + 1))
  -- the high end of a target is below the low end, or outside the bound
  target_high : (k : ℕ) → k < targets_in s
      → between (int32 s (target_place s k + 1)) (int32 s (target_place s k + 5)) (pos bound) ≡ false
      → Broken s (at BadField (target_place s k + 5))

-- what an answer says of the rules: where it accepts, no rule is broken; where it refuses, the rule that it tells is broken, and none that is looked at earlier
abbrev pub Told : {A : Type 0} → (Refusal → Type 0) → Result A Refusal → Type 0
Told B (Ok c) = (e : Refusal) → B e → ⊥
Told B (Err d) = B d × ((e : Refusal) → B e → Earlier e d → ⊥)
