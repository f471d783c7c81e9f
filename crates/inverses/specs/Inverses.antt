-- The inverse rules: the ends between which an operand lies, from the ends of the result and of the other operand.
use Rattle.std.specs.Prelude.{ℕ, ◌^◌, min, Bool, cond, ◌&&◌, ℤ, pos, ◌+ℤ◌, ◌-ℤ◌, ◌*ℤ◌, neg_ℤ, Some, None, Option, int_le, int_lt}
use Rattle.std.specs.Int.{int_max, int_min}
use Rattle.whole.specs.Corners.{least4, greatest4}
use Rattle.whole.specs.Quotients.{floor, ceiling}
use Rattle.whole.specs.Roots.{root_down, root_up}
use Rattle.boxes.specs.Boxes.{Ends}
use Rattle.ranges.specs.declared.spans.Span.{Span}
use Rattle.ranges.specs.Hulls.{ends_add, ends_sub}
use Rattle.ranges.specs.Spans.{span_ends}

-- the ends of a span, where there is one
abbrev pub known_ends : Option Span → Option Ends
known_ends None = None
known_ends (Some s) = Some (span_ends s)

-- x of z = x + y: it is z - y, from zl - yh to zh - yl
abbrev pub back_sum : (z y : Ends) → Ends
back_sum z y = ends_sub z y

-- x of z = x - y: it is z + y, from zl + yl to zh + yh
abbrev pub back_minuend : (z y : Ends) → Ends
back_minuend z y = ends_add z y

-- y of z = x - y: it is x - z, from xl - zh to xh - zl
abbrev pub back_subtrahend : (z x : Ends) → Ends
back_subtrahend z x = ends_sub x z

-- 0 lies between the ends, whichever of them is the lower: for ends in order, lo is at most 0 and hi at least 0
abbrev pub around_zero : Ends → Bool
around_zero e = int_le (int_min e.lo e.hi) (pos 0) && int_le (pos 0) (int_max e.lo e.hi)

-- the least quotient of corners, each rounded up
abbrev pub least_quotient : (z y : Ends) → ℤ
least_quotient z y = least4 (ceiling z.lo y.lo) (ceiling z.lo y.hi) (ceiling z.hi y.lo) (ceiling z.hi y.hi)

-- the greatest quotient of corners, each rounded down
abbrev pub greatest_quotient : (z y : Ends) → ℤ
greatest_quotient z y = greatest4 (floor z.lo y.lo) (floor z.lo y.hi) (floor z.hi y.lo) (floor z.hi y.hi)

-- from the least quotient to the greatest
abbrev pub quotients : (z y : Ends) → Ends
quotients z y = record { lo = least_quotient z y; hi = greatest_quotient z y }

-- x of z = x times y; nothing is known of it where y may be 0
unfoldable pub back_factor : (z y : Ends) → Option Ends
back_factor z y = cond (around_zero y) None (Some (quotients z y))

-- a number between the ends x that is at least s and at most m away from 0: s to m where it is above -s, -m to -s where it is below s
abbrev pub between_roots : (s m : ℤ) (x : Ends) → Ends
between_roots s m x = cond (int_lt (neg_ℤ s) x.lo) (record { lo = s; hi = m }) (cond (int_lt x.hi s) (record { lo = neg_ℤ m; hi = neg_ℤ s }) (record { lo = neg_ℤ m; hi = m }))

-- x of z = x squared, for an x between the ends x; crossed where zh is below 0
unfoldable pub back_square : (z x : Ends) → Ends
back_square z x = between_roots (root_up z.lo) (root_down z.hi) x

-- x of z = the lesser of x and y, for an x between the ends x: up to zh where y is above that
abbrev pub back_lesser : (z x y : Ends) → Ends
back_lesser z x y = record { lo = z.lo; hi = cond (int_lt z.hi y.lo) z.hi x.hi }

-- 2^by; a by above 30 is taken as 30
abbrev pub divisor : ℕ → ℕ
divisor by = 2 ^ min by 30

-- x of z = x / 2^by rounded down: from zl times 2^by to the last number before (zh + 1) times 2^by
abbrev pub back_shifted : ℕ → Ends → Ends
back_shifted by z = record { lo = z.lo *ℤ pos (divisor by); hi = (z.hi *ℤ pos (divisor by)) +ℤ (pos (divisor by) -ℤ pos 1) }
