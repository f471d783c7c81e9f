-- The bound of all values, and ends within ends.
use Rattle.std.specs.Prelude.{Bool, ◌&&◌, ℤ, pos, negsuc, ◌≤ℤ◌, int_le}
use Rattle.boxes.specs.Boxes.{Ends}

-- from -2^30 to 2^30
pub record Bounded (e : Ends) : Type 0 where
  pub above : negsuc 1073741823 ≤ℤ e.lo
  pub below : e.hi ≤ℤ pos 1073741824

-- from -2^30 to 2^30, and the low end does not pass the high one
pub record Ordered (e : Ends) : Type 0 where
  pub above : negsuc 1073741823 ≤ℤ e.lo
  pub order : e.lo ≤ℤ e.hi
  pub below : e.hi ≤ℤ pos 1073741824

-- the test for that
abbrev pub fit : Ends → Bool
fit e = int_le (negsuc 1073741823) e.lo && (int_le e.lo e.hi && int_le e.hi (pos 1073741824))

-- the ends e lie within the ends p
pub record Inside (e p : Ends) : Type 0 where
  pub low : p.lo ≤ℤ e.lo
  pub high : e.hi ≤ℤ p.hi

-- the ends of one number
abbrev pub point : ℤ → Ends
point c = record { lo = c; hi = c }
