-- The raster kind is lawful, and its answers are stepped.
use Rattle.std.specs.Prelude.{ℕ, ◌^◌, min, cond, ℤ, ◌+ℤ◌, ◌-ℤ◌, ◌*ℤ◌, ◌≤ℤ◌, Some, None, Option, int_le, refl}
use Rattle.std.proofs.Common.{arith, ap}
use Rattle.std.proofs.lemmas.Int.{ints, by_lt_z}
use Rattle.std.specs.Int.{int_min}
use Rattle.std.specs.Option.{unwrap_or}
use Rattle.whole.specs.Laws.{Multiple}
use Rattle.whole.proofs.Products.{is_le, not_le}
use Rattle.whole.proofs.Congruences.{multiple_none, multiple_one}
use Rattle.boxes.specs.Boxes.{Ends, nought}
use Rattle.ranges.specs.declared.row.Row.{Row}
use Rattle.ranges.specs.Bounds.{Ordered, point}
use Rattle.ranges.specs.Hulls.{ends_add, ends_sub, ends_mul, ends_sqr, ends_min, ends_shr}
use Rattle.ranges.specs.Kind.{Valid, Answer, OfOne, OfTwo, One, Two, Spans, Constant, Lawful, ends}
use Rattle.ranges.specs.Lawfulness.{ordered, unordered, within_by}
use Rattle.raster.specs.Rasters.{raster, raster_kind, row_at, power_mul, power_min}
use Rattle.raster.specs.RasterLaws.{HeldSteps, SteppedIn, SteppedOne, SteppedTwo, SteppedAnswers}
use Rattle.raster.specs.Stepping.{Fit, valid_in, fits_out, holds_in, holds_out, held_low, held_high, raster_by, raster_yes, stepped_in, stepped_out}
use Rattle.raster.specs.Operations.{raster_two, raster_add, raster_sub, raster_mul, raster_min, raster_shr}
use Rattle.raster.specs.Inward.{raster_sqr, apart_tells}

-- a range that holds all numbers between its ends
spans : (e : Ends) (t : ℕ) → Fit e t → ((x : ℤ) → e.lo ≤ℤ x → x ≤ℤ e.hi → Multiple (2 ^ t) (x -ℤ e.lo)) → Spans raster_kind e (row_at e t)
spans e t f m = record {
  valid = fits_out e t f;
  same = refl;
  holds = λ x p q. holds_out (row_at e t) x (record { amid = record { low = p; high = q }; on = m x p q });
}

-- one number is on every raster
one_on : (m : ℕ) (l h x : ℤ) → h ≤ℤ l → l ≤ℤ x → x ≤ℤ h → Multiple m (x -ℤ l)
one_on m l h x o p q = multiple_none (x -ℤ l) (omega (arith, ints))

side_spans : (l h : ℤ) → Ordered (record { lo = l; hi = h }) → Spans raster_kind (record { lo = l; hi = h }) (row_at (record { lo = l; hi = h }) (cond (int_le h l) 31 0))
side_spans l h o = let e : Ends = record { lo = l; hi = h } in by_lt_z l h
    (λ n. rw (not_le h l n) (spans e 0 (record { ordered = o; limit = omega arith; whole = multiple_one 0 (h -ℤ l) refl }) (λ x p q. multiple_one 0 (x -ℤ l) refl)))
    (λ n. rw (is_le h l n) (spans e 31 (record { ordered = o; limit = omega arith; whole = one_on (2 ^ 31) l h h n o.order (omega (arith, ints)) }) (λ x p q. one_on (2 ^ 31) l h x n p q)))

constant_spans : (c : ℤ) → Constant raster_kind c (raster (point c) 31)
constant_spans c = raster_by (point c) 31 (Constant raster_kind c)
    (λ f. (unordered (point c) f.ordered, spans (point c) 31 f (λ x p q. one_on (2 ^ 31) c c x (omega (arith, ints)) p q)))
    (λ n b. n (record {
      ordered = ordered (point c) (omega (arith, ints)) b;
      limit = omega arith;
      whole = multiple_none (c -ℤ c) (omega (arith, ints));
    }))

zero_valid : Valid raster_kind (row_at nought 31)
zero_valid = refl

pub raster_lawful : Lawful raster_kind
raster_lawful = record {
  first = λ r v. holds_out r r.low (held_low r v);
  last = λ r v. holds_out r r.high (held_high r v);
  between = λ r x v h. let m = (holds_in r x h).amid in (m.low, m.high);
  bounded = λ r v. unordered (ends r) (valid_in r v).ordered;
  sides = side_spans;
  constants = constant_spans;
  sums = raster_two ◌+ℤ◌ ends_add (λ a b. min a.step b.step) raster_add;
  differences = raster_two ◌-ℤ◌ ends_sub (λ a b. min a.step b.step) raster_sub;
  products = raster_two ◌*ℤ◌ ends_mul power_mul raster_mul;
  squares = raster_sqr;
  minima = raster_two int_min ends_min power_min raster_min;
  shifts = raster_shr;
  withins = λ r l h v. within_by raster_kind r l h (holds_out r r.low (held_low r v)) (holds_out r r.high (held_high r v)) (λ x k. (holds_in r x k).amid);
  aparts = λ r l h v. apart_tells r l h v;
  fixes = λ r. raster_by (ends r) r.step (λ o. Valid raster_kind (unwrap_or o (row_at nought 31))) (fits_out (ends r) r.step) (λ _. zero_valid);
  back = λ r v. ap (λ o. unwrap_or o (row_at nought 31)) (raster_yes (ends r) r.step (valid_in r v));
}

pub held_steps : HeldSteps
held_steps r x v = (λ h. stepped_out r x (holds_in r x h), λ s. holds_out r x (stepped_in r x s))

-- an answer that holds a result has it on its steps
stepped_answer : (e : Ends) (R : ℤ → Type 0) (o : Option Row) (z : ℤ) → Answer raster_kind e R o → R z → SteppedIn o z
stepped_answer e R None z h r = tt
stepped_answer e R (Some c) z h r = stepped_out c z (holds_in c z (h.holds z r))

stepped_one : (f : ℤ → ℤ) (e : Ends → Ends) (op : Row → Option Row) → One raster_kind f e op → SteppedOne f op
stepped_one f e op h a x va s = stepped_answer (e (ends a)) (OfOne raster_kind f a) (op a) (f x) (h a va)
    (record { x = x; in_a = holds_out a x (stepped_in a x s); is = refl })

stepped_two : (f : ℤ → ℤ → ℤ) (e : Ends → Ends → Ends) (op : Row → Row → Option Row) → Two raster_kind f e op → SteppedTwo f op
stepped_two f e op h a b x y va vb s t = stepped_answer (e (ends a) (ends b)) (OfTwo raster_kind f a b) (op a b) (f x y) (h a b va vb)
    (record { x = x; y = y; in_a = holds_out a x (stepped_in a x s); in_b = holds_out b y (stepped_in b y t); is = refl })

pub stepped_answers : SteppedAnswers
stepped_answers = record {
  sums = stepped_two _ ends_add _ raster_lawful.sums;
  differences = stepped_two _ ends_sub _ raster_lawful.differences;
  products = stepped_two _ ends_mul _ raster_lawful.products;
  squares = stepped_one _ ends_sqr _ raster_lawful.squares;
  minima = stepped_two _ ends_min _ raster_lawful.minima;
  shifts = λ b. stepped_one _ (ends_shr b) _ (raster_lawful.shifts b);
}
