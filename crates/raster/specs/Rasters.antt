-- The raster kind: low, low + 2^t, .. up to high. A row's step is t.
use Rattle.std.specs.Prelude.{ℕ, ◌+◌, ◌-◌, ◌%◌, ◌^◌, min, Bool, cond, not, ◌&&◌, ℤ, pos, ◌+ℤ◌, ◌-ℤ◌, ◌*ℤ◌, is_some, Some, None, Option, ◌==◌, int_le, nat_le, unsigned_abs}
use Rattle.std.specs.Int.Count.{count_trailing_zeros}
use Rattle.std.specs.Int.Signed.{shr_z}
use Rattle.std.specs.Int.{int_max, int_min}
use Rattle.std.specs.Option.{unwrap_or}
use Rattle.boxes.specs.Boxes.{Ends, nought}
use Rattle.ranges.specs.declared.row.Row.{Row}
use Rattle.ranges.specs.Bounds.{fit, point}
use Rattle.ranges.specs.Hulls.{ends_add, ends_sub, ends_mul, ends_sqr, ends_min, ends_shr, square}
use Rattle.ranges.specs.Kind.{Kind, Keeper, ends}
use Rattle.raster.specs.declared.raster.Raster.{Raster}

-- the row with these ends and steps of 2^t
abbrev pub row_at : Ends → ℕ → Row
row_at e t = record { low = e.lo; high = e.hi; step = t }

-- 2^t divides n
abbrev pub divided : ℕ → ℤ → Bool
divided t n = unsigned_abs n % 2 ^ t == 0

-- the ends are in order and within the bound, t is at most 31, and 2^t divides the distance of the ends
abbrev pub raster_fit : Ends → ℕ → Bool
raster_fit e t = fit e && (nat_le t 31 && divided t (e.hi -ℤ e.lo))

-- the row of the raster range with these ends and steps of 2^t, if there is one
unfoldable pub raster : Ends → ℕ → Option Row
raster e t = cond (raster_fit e t) (Some (row_at e t)) None

-- the greatest multiple of 2^t that is at most n
abbrev pub floored : ℕ → ℤ → ℤ
floored t n = shr_z n (2 ^ t) *ℤ pos (2 ^ t)

-- the ends moved inward, to numbers that differ from base by multiples of 2^t
abbrev pub inward : ℤ → ℕ → Ends → Ends
inward base t e = record {
  lo = base -ℤ floored t (base -ℤ e.lo);
  hi = base +ℤ floored t (e.hi -ℤ base);
}

-- the raster range with the ends moved inward, if they were in order and within the bound before that
unfoldable pub raster_inward : ℤ → ℕ → Ends → Option Row
raster_inward base t e = cond (fit e) (raster (inward base t e) t) None

-- the lesser of t and the number of trailing zero bits of n; t for 0
abbrev pub zeros : ℕ → ℤ → ℕ
zeros t n = min t (count_trailing_zeros 64 (unsigned_abs n))

-- the power of a product's step: the least of 31, t + t', t + z' and t' + z
abbrev pub power_mul : Row → Row → ℕ
power_mul a b = min 31 (min (a.step + b.step) (min (a.step + zeros b.step b.low) (b.step + zeros a.step a.low)))

-- the power of a minimum's step: the least of t, t' and the trailing zero bits of the difference of the lows
abbrev pub power_min : Row → Row → ℕ
power_min a b = zeros (min a.step b.step) (a.low -ℤ b.low)

-- the held numbers from x to y, if there are any: what lies between the ends and from x to y, moved inward
abbrev pub raster_kept : Row → ℤ → ℤ → Option Row
raster_kept r x y = raster_inward r.low r.step (record { lo = int_max r.low x; hi = int_min r.high y })

-- the row of a raster range of the code
abbrev pub raster_row : Raster → Row
raster_row p = row_at (record { lo = p.low; hi = p.high }) p.power.log

-- the raster kind: plain ends with the power of the step that all results keep; a square's ends are moved inward, to the raster of low squared
abbrev pub raster_kind : Kind
raster_kind = record {
  valid = λ r. raster_fit (ends r) r.step;
  holds = λ r x. int_le r.low x && (int_le x r.high && divided r.step (x -ℤ r.low));
  side = λ l h. row_at (record { lo = l; hi = h }) (cond (int_le h l) 31 0);
  constant = λ c. raster (point c) 31;
  add = λ a b. raster (ends_add (ends a) (ends b)) (min a.step b.step);
  sub = λ a b. raster (ends_sub (ends a) (ends b)) (min a.step b.step);
  mul = λ a b. raster (ends_mul (ends a) (ends b)) (power_mul a b);
  sqr = λ a. raster_inward (square a.low) (power_mul a a) (ends_sqr (ends a));
  least = λ a b. raster (ends_min (ends a) (ends b)) (power_min a b);
  shift = λ b a. raster (ends_shr b (ends a)) (a.step - min b 30);
  within = λ r l h. int_le l r.low && int_le r.high h;
  apart = λ r l h. not (is_some (raster_kept r l h));
  fixed = λ r. unwrap_or (raster (ends r) r.step) (row_at nought 31);
}

-- what a raster range keeps
abbrev pub raster_keeper : Keeper
raster_keeper = record { kept = raster_kept }
