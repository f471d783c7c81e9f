-- What narrowing leaves of the registers, by the meaning of a narrowing kind of range.
use Rattle.std.specs.Prelude.{ℕ, ◌<◌, List, [], ◌∷◌, Some, None, Option, slice_set}
use Rattle.boxes.specs.Boxes.{Ends}
use Rattle.ranges.specs.declared.row.Row.{Row}
use Rattle.ranges.specs.Kind.{Keeper, Kind, ends}
use Rattle.inverses.specs.Inverses.{back_factor, back_lesser, back_minuend, back_shifted, back_square, back_subtrahend, back_sum}
use Rattle.records.specs.declared.instruction.Instruction.{Instruction}
use Rattle.records.specs.declared.instruction.Instruction.TheVariants.{Const, Knob, Add, Sub, Mul, Sqr, Min, Shr}
use Rattle.records.specs.declared.target.Target.{Target}
use Rattle.evaluation.specs.Judging.{taken}
use Rattle.cutters.specs.Cutting.{and_then}

-- the list with another entry in one place, if there is one to put there
abbrev pub placed : {A : Type 0} → List A → ℕ → Option A → Option (List A)
placed xs n None = None
placed xs n (Some x) = Some (slice_set xs n x)

-- the operands of instruction j are earlier registers
abbrev pub Earlier : ℕ → Instruction → Type 0
Earlier j (Const c) = Unit {0}
Earlier j (Knob m) = Unit {0}
Earlier j (Add a b) = (a < j) × (b < j)
Earlier j (Sub a b) = (a < j) × (b < j)
Earlier j (Mul a b) = (a < j) × (b < j)
Earlier j (Sqr a) = a < j
Earlier j (Min a b) = (a < j) × (b < j)
Earlier j (Shr a b) = a < j

-- the ends between which an instruction's first operand x lies, by the ends of its result z and of its operands, if any are known
abbrev pub first_ends : Instruction → (z x y : Ends) → Option Ends
first_ends (Const c) z x y = None
first_ends (Knob m) z x y = None
first_ends (Add a b) z x y = Some (back_sum z y)
first_ends (Sub a b) z x y = Some (back_minuend z y)
first_ends (Mul a b) z x y = back_factor z y
first_ends (Sqr a) z x y = Some (back_square z x)
first_ends (Min a b) z x y = Some (back_lesser z x y)
first_ends (Shr a b) z x y = Some (back_shifted b z)

-- the ends between which its second operand y lies, if it has one
abbrev pub second_ends : Instruction → (z x y : Ends) → Option Ends
second_ends (Const c) z x y = None
second_ends (Knob m) z x y = None
second_ends (Add a b) z x y = Some (back_sum z x)
second_ends (Sub a b) z x y = Some (back_subtrahend z x)
second_ends (Mul a b) z x y = back_factor z x
second_ends (Sqr a) z x y = None
second_ends (Min a b) z x y = Some (back_lesser z y x)
second_ends (Shr a b) z x y = None

module _ (k : Kind) (n : Keeper) where
  -- the ends of a register's range
  abbrev pub ends_at : List Row → ℕ → Ends
  ends_at rows a = ends (taken k rows a)

  -- a register kept between ends; nothing where it holds no number there
  abbrev pub narrowed : List Row → ℕ → Ends → Option (List Row)
  narrowed rows a e = placed rows a (n.kept (taken k rows a) e.lo e.hi)

  -- a register kept between ends, if any are known
  abbrev pub narrowed_if : List Row → ℕ → Option Ends → Option (List Row)
  narrowed_if rows a None = Some rows
  narrowed_if rows a (Some e) = narrowed rows a e

  -- the operands a and b of instruction j: a narrowed by the ends of the result and of both, then b by those of the new a
  abbrev pub both : Instruction → List Row → ℕ → ℕ → ℕ → Option (List Row)
  both i rows j a b =
      and_then (narrowed_if rows a (first_ends i (ends_at rows j) (ends_at rows a) (ends_at rows b)))
      (λ left. narrowed_if left b (second_ends i (ends_at rows j) (ends_at left a) (ends_at left b)))

  -- the operands of instruction j narrowed by its result; a single operand stands in both places
  abbrev pub operands : Instruction → ℕ → List Row → Option (List Row)
  operands (Const c) j rows = Some rows
  operands (Knob m) j rows = Some rows
  operands (Add a b) j rows = both (Add a b) rows j a b
  operands (Sub a b) j rows = both (Sub a b) rows j a b
  operands (Mul a b) j rows = both (Mul a b) rows j a b
  operands (Sqr a) j rows = both (Sqr a) rows j a a
  operands (Min a b) j rows = both (Min a b) rows j a b
  operands (Shr a b) j rows = both (Shr a b) rows j a a

  -- each target's register kept within the target, one after the other
  abbrev pub aimed : List Target → List Row → Option (List Row)
  aimed [] rows = Some rows
  aimed (t ∷ targets) rows = and_then (narrowed rows t.register (record { lo = t.low; hi = t.high })) (aimed targets)
