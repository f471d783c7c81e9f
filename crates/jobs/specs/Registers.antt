-- The registers of a program: their values at a setting, and their rows over a box by a kind of range.
use Rattle.std.specs.Prelude.{ℕ, ◌<◌, List, [], ◌∷◌, ◌++◌, length, get_or, ℤ, pos, ◌+ℤ◌, ◌-ℤ◌, ◌*ℤ◌, Some, None, Ok, Err, Option, Result, cond, nat_lt, slice_index_or}
use Rattle.std.specs.Int.{int_min}
use Rattle.tables.specs.Tables.{entries}
use Rattle.boxes.specs.Boxes.{Ends, nought}
use Rattle.ranges.specs.declared.row.Row.{Row}
use Rattle.ranges.specs.Bounds.{point}
use Rattle.ranges.specs.Hulls.{ends_add, ends_sub, ends_mul, ends_sqr, ends_min, ends_shr, shifted, square}
use Rattle.ranges.specs.Kind.{Kind, Valid, ends}
use Rattle.ranges.specs.Plains.{row_of}
use Rattle.records.specs.declared.fields.Fields.{Fields}
use Rattle.records.specs.declared.instruction.Instruction.{Instruction}
use Rattle.records.specs.declared.instruction.Instruction.TheVariants.{Const, Knob, Add, Sub, Mul, Sqr, Min, Shr}
use Rattle.jobs.specs.declared.out_of_bound.OutOfBound.{OutOfBound}

-- the instructions of a job
abbrev pub program_of : Fields → List Instruction
program_of f = entries f.program

-- what is done with an answer: with none, xs is all; with one, it goes on behind it
abbrev pub onward : {A : Type 0} → List A → (List A → List A) → Option A → List A
onward xs f None = xs
onward xs f (Some x) = f (xs ++ (x ∷ []))

-- one register for each instruction, after those of xs, up to the first that has no answer
unfoldable pub fill : {A : Type 0} → (Instruction → List A → Option A) → List Instruction → List A → List A
fill f [] xs = xs
fill f (i ∷ is) xs = onward xs (fill f is) (f i xs)

-- the value of one instruction, by what each knob reads and the values of the registers before it
abbrev pub value : (ℕ → ℤ) → Instruction → List ℤ → ℤ
value knob (Const c) vs = c
value knob (Knob n) vs = knob n
value knob (Add a b) vs = slice_index_or vs a (pos 0) +ℤ slice_index_or vs b (pos 0)
value knob (Sub a b) vs = slice_index_or vs a (pos 0) -ℤ slice_index_or vs b (pos 0)
value knob (Mul a b) vs = slice_index_or vs a (pos 0) *ℤ slice_index_or vs b (pos 0)
value knob (Sqr a) vs = square (slice_index_or vs a (pos 0))
value knob (Min a b) vs = int_min (slice_index_or vs a (pos 0)) (slice_index_or vs b (pos 0))
value knob (Shr a b) vs = shifted b (slice_index_or vs a (pos 0))

-- the values of all registers, by what each knob reads
abbrev pub values : List Instruction → (ℕ → ℤ) → List ℤ
values program knob = fill (λ i vs. Some (value knob i vs)) program []

-- the row in the place of no register
abbrev pub no_row : Row
no_row = row_of nought

-- the row of one instruction over a box, from the rows before it
abbrev pub gives : Kind → List Ends → Instruction → List Row → Option Row
gives k box (Const c) qs = k.constant c
gives k box (Knob n) qs = Some (k.side (get_or box n nought).lo (get_or box n nought).hi)
gives k box (Add a b) qs = k.add (slice_index_or qs a no_row) (slice_index_or qs b no_row)
gives k box (Sub a b) qs = k.sub (slice_index_or qs a no_row) (slice_index_or qs b no_row)
gives k box (Mul a b) qs = k.mul (slice_index_or qs a no_row) (slice_index_or qs b no_row)
gives k box (Sqr a) qs = k.sqr (slice_index_or qs a no_row)
gives k box (Min a b) qs = k.least (slice_index_or qs a no_row) (slice_index_or qs b no_row)
gives k box (Shr a b) qs = k.shift b (slice_index_or qs a no_row)

-- the rows of the registers over a box, up to the first that is too large
abbrev pub registers : Kind → List Instruction → List Ends → List Row
registers k program box = fill (gives k box) program []

-- n registers are within the bound of all that there are: every one, or register n is the first that is not
abbrev pub all_within : ℕ → ℕ → Result (Unit {0}) OutOfBound
all_within n all = cond (nat_lt n all) (Err (record { register = n })) (Ok tt)

-- the plain answer of one instruction over a box, by the ends of the rows before it
abbrev pub expected : List Ends → Instruction → List Row → Ends
expected box (Const c) qs = point c
expected box (Knob n) qs = slice_index_or box n nought
expected box (Add a b) qs = ends_add (ends (slice_index_or qs a no_row)) (ends (slice_index_or qs b no_row))
expected box (Sub a b) qs = ends_sub (ends (slice_index_or qs a no_row)) (ends (slice_index_or qs b no_row))
expected box (Mul a b) qs = ends_mul (ends (slice_index_or qs a no_row)) (ends (slice_index_or qs b no_row))
expected box (Sqr a) qs = ends_sqr (ends (slice_index_or qs a no_row))
expected box (Min a b) qs = ends_min (ends (slice_index_or qs a no_row)) (ends (slice_index_or qs b no_row))
expected box (Shr a b) qs = ends_shr b (ends (slice_index_or qs a no_row))

-- what instruction k of a program with n knobs may name
abbrev pub Before : ℕ → ℕ → Instruction → Type 0
Before n k (Const c) = Unit {0}
Before n k (Knob a) = a < n
Before n k (Add a b) = (a < k) × (b < k)
Before n k (Sub a b) = (a < k) × (b < k)
Before n k (Mul a b) = (a < k) × (b < k)
Before n k (Sqr a) = a < k
Before n k (Min a b) = (a < k) × (b < k)
Before n k (Shr a b) = a < k

-- the instruction in the place of none
abbrev pub no_instruction : Instruction
no_instruction = Const (pos 0)

-- each instruction names knobs that there are and registers before its own
abbrev pub Wired : ℕ → List Instruction → Type 0
Wired n program = (k : ℕ) → k < length program → Before n k (slice_index_or program k no_instruction)

-- the first n rows are rows of the kind
abbrev pub AllValid : Kind → List Row → ℕ → Type 0
AllValid k rows n = (j : ℕ) → j < n → Valid k (slice_index_or rows j no_row)
