-- The plain answer of each operation: the ends of all results of numbers between the operands' ends.
use Rattle.std.specs.Prelude.{ℕ, ◌^◌, min, cond, ℤ, pos, ◌+ℤ◌, ◌-ℤ◌, ◌*ℤ◌, int_le}
use Rattle.std.specs.Int.Signed.{shr_z}
use Rattle.std.specs.Int.{int_max, int_min}
use Rattle.whole.specs.Corners.{least4, greatest4}
use Rattle.boxes.specs.Boxes.{Ends}

-- low ends added, high ends added
abbrev pub ends_add : Ends → Ends → Ends
ends_add a b = record { lo = a.lo +ℤ b.lo; hi = a.hi +ℤ b.hi }

-- each end less the other operand's opposite end
abbrev pub ends_sub : Ends → Ends → Ends
ends_sub a b = record { lo = a.lo -ℤ b.hi; hi = a.hi -ℤ b.lo }

-- the least and the greatest of the products of the four corners
abbrev pub ends_mul : Ends → Ends → Ends
ends_mul a b = record {
  lo = least4 (a.lo *ℤ b.lo) (a.lo *ℤ b.hi) (a.hi *ℤ b.lo) (a.hi *ℤ b.hi);
  hi = greatest4 (a.lo *ℤ b.lo) (a.lo *ℤ b.hi) (a.hi *ℤ b.lo) (a.hi *ℤ b.hi);
}

-- a number times itself
abbrev pub square : ℤ → ℤ
square x = x *ℤ x

-- the least square of the numbers from l to h: 0 where they have both signs
abbrev pub low_square : ℤ → ℤ → ℤ
low_square l h = cond (int_le (pos 0) l) (square l) (cond (int_le h (pos 0)) (square h) (pos 0))

-- from the least square to the greater of the ends' squares
abbrev pub ends_sqr : Ends → Ends
ends_sqr a = record { lo = low_square a.lo a.hi; hi = int_max (square a.lo) (square a.hi) }

-- the lesser of the low ends, the lesser of the high ends
abbrev pub ends_min : Ends → Ends → Ends
ends_min a b = record { lo = int_min a.lo b.lo; hi = int_min a.hi b.hi }

-- divided by 2^b and rounded down; a b above 30 is taken as 30
abbrev pub shifted : ℕ → ℤ → ℤ
shifted b z = shr_z z (2 ^ min b 30)

-- both ends shifted
abbrev pub ends_shr : ℕ → Ends → Ends
ends_shr b a = record { lo = shifted b a.lo; hi = shifted b a.hi }
