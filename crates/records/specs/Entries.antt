-- The entries of a record's tables: what stands at a place, and which of its fields breaks its rule first.
use Rattle.std.specs.Prelude.{ℕ, ◌+◌, ◌*◌, Bool, cond, not, List, [], ◌∷◌, ℤ, pos, negsuc, neg_ℤ, Option, ◌==◌, nat_le, nat_lt}
use Rattle.boxes.specs.Boxes.{Ends, between}
use Rattle.records.specs.declared.reason.Reason.TheVariants.{BadInstruction, BadField}
use Rattle.records.specs.declared.reason.Refusal.{Refusal}
use Rattle.records.specs.declared.instruction.Instruction.{Instruction}
use Rattle.records.specs.declared.instruction.Instruction.TheVariants.{Const, Knob, Add, Sub, Mul, Sqr, Min, Shr}
use Rattle.records.specs.declared.target.Target.{Target}
use Rattle.records.specs.Numbers.{byte, int16, int32}
use Rattle.records.specs.Places.{side_size, instruction_size, target_size}
use Rattle.records.specs.Rules.{bound, bounded}
use Rattle.records.specs.Faults.{when, first}

-- the instruction of an operation's code, from 0 to 7, and its three fields
abbrev pub decoded : ℕ → ℕ → ℕ → ℤ → Instruction
decoded code a b c =
    cond (code == 1) (Knob a)
    (cond (code == 2) (Add a b)
    (cond (code == 3) (Sub a b)
    (cond (code == 4) (Mul a b)
    (cond (code == 5) (Sqr a)
    (cond (code == 6) (Min a b)
    (cond (code == 7) (Shr a b) (Const c)))))))

-- how many values, from 0, the field a of instruction k may take; a field without use takes one
abbrev pub a_values : ℕ → ℕ → ℕ → ℕ
a_values code knobs k = cond (code == 0) 1 (cond (code == 1) knobs k)

-- how many values, from 0, the field b of instruction k may take
abbrev pub b_values : ℕ → ℕ → ℕ
b_values code k =
    cond (code == 0) 1
    (cond (code == 1) 1
    (cond (code == 5) 1
    (cond (code == 7) 31 k)))

-- how far the field c of an operation may lie from 0
abbrev pub c_reach : ℕ → ℕ
c_reach code = cond (code == 0) bound 0

-- the field c of an operation lies within its reach
abbrev pub reached : ℕ → ℤ → Bool
reached code c = between (neg_ℤ (pos (c_reach code))) c (pos (c_reach code))

-- the instruction in the seven bytes at a place
abbrev pub instruction_at : List ℕ → ℕ → Instruction
instruction_at s at = decoded (byte s at) (byte s (at + 1)) (byte s (at + 2)) (int32 s (at + 3))

-- what is wrong with instruction k of a job with so many knobs, in the seven bytes at a place
abbrev pub instruction_fault : List ℕ → ℕ → ℕ → ℕ → Option Refusal
instruction_fault s knobs k at =
    first (when (nat_lt 7 (byte s at)) BadInstruction at
    ∷ when (nat_le (a_values (byte s at) knobs k) (byte s (at + 1))) BadInstruction (at + 1)
    ∷ when (nat_le (b_values (byte s at) k) (byte s (at + 2))) BadInstruction (at + 2)
    ∷ when (not (reached (byte s at) (int32 s (at + 3)))) BadInstruction (at + 3)
    ∷ [])

-- the side in the four bytes at a place
abbrev pub side_at : List ℕ → ℕ → Ends
side_at s at = record { lo = int16 s at; hi = int16 s (at + 2) }

-- what is wrong with the side in the four bytes at a place
abbrev pub side_fault : List ℕ → ℕ → Option Refusal
side_fault s at =
    first (when (not (between (negsuc 16383) (int16 s at) (pos 16383))) BadField at
    ∷ when (not (between (int16 s at) (int16 s (at + 2)) (pos 16383))) BadField (at + 2)
    ∷ [])

-- the target in the nine bytes at a place
abbrev pub target_at : List ℕ → ℕ → Target
target_at s at = record { register = byte s at; low = int32 s (at + 1); high = int32 s (at + 5) }

-- what is wrong with the target, in a job with so many registers, in the nine bytes at a place
abbrev pub target_fault : List ℕ → ℕ → ℕ → Option Refusal
target_fault s registers at =
    first (when (nat_le registers (byte s at)) BadField at
    ∷ when (not (bounded (int32 s (at + 1)))) BadField (at + 1)
    ∷ when (not (between (int32 s (at + 1)) (int32 s (at + 5)) (pos bound))) BadField (at + 5)
    ∷ [])

-- side k of the sides that follow one another from a place
abbrev pub sides_from : List ℕ → ℕ → ℕ → Ends
sides_from s start k = side_at s (start + side_size * k)

-- what is wrong with side k of the sides that follow one another from a place
abbrev pub side_faults : List ℕ → ℕ → ℕ → Option Refusal
side_faults s start k = side_fault s (start + side_size * k)

-- instruction k of the instructions that follow one another from a place
abbrev pub instructions_from : List ℕ → ℕ → ℕ → Instruction
instructions_from s start k = instruction_at s (start + instruction_size * k)

-- what is wrong with instruction k of the instructions that follow one another from a place
abbrev pub instruction_faults : List ℕ → ℕ → ℕ → ℕ → Option Refusal
instruction_faults s knobs start k = instruction_fault s knobs k (start + instruction_size * k)

-- target k of the targets that follow one another from a place
abbrev pub targets_from : List ℕ → ℕ → ℕ → Target
targets_from s start k = target_at s (start + target_size * k)

-- what is wrong with target k of the targets that follow one another from a place
abbrev pub target_faults : List ℕ → ℕ → ℕ → ℕ → Option Refusal
target_faults s registers start k = target_fault s registers (start + target_size * k)
