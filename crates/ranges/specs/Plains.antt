-- The plain kind: all whole numbers from low to high.
use Rattle.std.specs.Prelude.{cond, ◌&&◌, Some, None, Option, ◌==◌, int_le, int_lt}
use Rattle.std.specs.Int.{int_max, int_min}
use Rattle.std.specs.Option.{unwrap_or}
use Rattle.boxes.specs.Boxes.{Ends, nought}
use Rattle.ranges.specs.Bounds.{fit, point}
use Rattle.ranges.specs.Hulls.{ends_add, ends_sub, ends_mul, ends_sqr, ends_min, ends_shr}
use Rattle.ranges.specs.Kind.{Kind, Keeper, ends}
use Rattle.ranges.specs.declared.plain.Plain.{Plain}
use Rattle.ranges.specs.declared.row.Row.{Row}

-- the plain row with these ends
abbrev pub row_of : Ends → Row
row_of e = record { low = e.lo; high = e.hi; step = 0 }

-- the row of the plain range with these ends, if they are in order and within the bound
unfoldable pub plain : Ends → Option Row
plain e = cond (fit e) (Some (row_of e)) None

-- the row of a plain range of the code
abbrev pub plain_row : Plain → Row
plain_row p = row_of (record { lo = p.low; hi = p.high })

-- the plain kind: each operation answers the plain answer, if it is within the bound
abbrev pub plain_kind : Kind
plain_kind = record {
  valid = λ r. fit (ends r) && (r.step == 0);
  holds = λ r x. int_le r.low x && int_le x r.high;
  side = λ l h. row_of (record { lo = l; hi = h });
  constant = λ c. plain (point c);
  add = λ a b. plain (ends_add (ends a) (ends b));
  sub = λ a b. plain (ends_sub (ends a) (ends b));
  mul = λ a b. plain (ends_mul (ends a) (ends b));
  sqr = λ a. plain (ends_sqr (ends a));
  least = λ a b. plain (ends_min (ends a) (ends b));
  shift = λ b a. plain (ends_shr b (ends a));
  within = λ r l h. int_le l r.low && int_le r.high h;
  apart = λ r l h. int_lt (int_min r.high h) (int_max r.low l);
  fixed = λ r. unwrap_or (plain (ends r)) (row_of nought);
}

-- what a plain range keeps: the numbers from the greater low end to the lesser high end
abbrev pub plain_keeper : Keeper
plain_keeper = record {
  kept = λ a x y. plain (record { lo = int_max a.low x; hi = int_min a.high y });
}
