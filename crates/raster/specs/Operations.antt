-- Operations with plain ends: each result lies on the raster of the answer.
use Rattle.std.specs.Prelude.{ℕ, ◌-◌, ◌^◌, ◌≤◌, min, ℤ, ◌+ℤ◌, ◌-ℤ◌, ◌*ℤ◌, ◌≤ℤ◌}
use Rattle.std.proofs.Common.{arith, sym, subst}
use Rattle.std.proofs.lemmas.Int.{ints}
use Rattle.std.specs.Int.{int_min}
use Rattle.whole.specs.Laws.{Multiple}
use Rattle.whole.proofs.Corners.{pick_least4, pick_greatest4}
use Rattle.whole.proofs.Multiples.{multiple_pow}
use Rattle.whole.proofs.Congruences.{multiple_between, sum_apart, difference_apart, product_apart, lesser_apart, shift_apart}
use Rattle.whole.proofs.Twos.{power_divides}
use Rattle.boxes.specs.Boxes.{Ends}
use Rattle.ranges.specs.declared.row.Row.{Row}
use Rattle.ranges.specs.Hulls.{ends_add, ends_sub, ends_mul, ends_min, ends_shr, shifted}
use Rattle.ranges.specs.Kind.{Valid, Answer, OfOne, OfTwo, One, Two, ends}
use Rattle.ranges.specs.HullsLemmas.{On, Hull2, hull_add, hull_sub, hull_mul, hull_min, hull_shr}
use Rattle.ranges.specs.Lawfulness.{ordered, unordered, through}
use Rattle.raster.specs.Rasters.{raster, raster_kind, row_at, zeros, power_mul, power_min}
use Rattle.raster.specs.Stepping.{Held, valid_in, fits_out, holds_in, holds_out, held_low, held_high, raster_by}

-- the answer with the plain ends e, where every result is on its raster
pub raster_answer : (e : Ends) (t : ℕ) (R : ℤ → Type 0) → e.lo ≤ℤ e.hi → t ≤ 31 → Multiple (2 ^ t) (e.hi -ℤ e.lo) →
    ((z : ℤ) → R z → Held (row_at e t) z) → Answer raster_kind e R (raster e t)
raster_answer e t R o l w h = raster_by e t (Answer raster_kind e R)
    (λ f. record {
      valid = fits_out e t f;
      inside = record { low = omega (arith, ints); high = omega (arith, ints) };
      bounded = unordered e f.ordered;
      holds = λ z r. holds_out (row_at e t) z (h z r);
    })
    (λ n b. n (record { ordered = ordered e o b; limit = l; whole = w }))

-- f of two operands with the plain ends e and steps of 2^s: what is so of every f of held numbers is so of both ends,
-- and every such f differs from f of the low ends by a multiple of 2^s
pub record Raster2 (f : ℤ → ℤ → ℤ) (e : Ends → Ends → Ends) (s : Row → Row → ℕ) : Type 1 where
  pub hull : Hull2 f e
  pub low : (a b : Row) → Valid raster_kind a → Valid raster_kind b → (P : ℤ → Type 0) → ((x y : ℤ) → Held a x → Held b y → P (f x y)) → P (e (ends a) (ends b)).lo
  pub high : (a b : Row) → Valid raster_kind a → Valid raster_kind b → (P : ℤ → Type 0) → ((x y : ℤ) → Held a x → Held b y → P (f x y)) → P (e (ends a) (ends b)).hi
  pub apart : (a b : Row) (x y : ℤ) → Held a x → Held b y → Multiple (2 ^ s a b) (f x y -ℤ f a.low b.low)
  pub limit : (a b : Row) → Valid raster_kind a → Valid raster_kind b → s a b ≤ 31

pub raster_two : (f : ℤ → ℤ → ℤ) (e : Ends → Ends → Ends) (s : Row → Row → ℕ) → Raster2 f e s → Two raster_kind f e (λ a b. raster (e (ends a) (ends b)) (s a b))
raster_two f e s g a b va vb =
    let t = s a b in
    let p = e (ends a) (ends b) in
    let base = f a.low b.low in
    let amid : (x y : ℤ) → Held a x → Held b y → On p (f x y) = λ x y h k. g.hull.all (ends a) (ends b) x y h.amid k.amid in
    let lo : Multiple (2 ^ t) (p.lo -ℤ base) = g.low a b va vb (λ z. Multiple (2 ^ t) (z -ℤ base)) (g.apart a b) in
    let hi : Multiple (2 ^ t) (p.hi -ℤ base) = g.high a b va vb (λ z. Multiple (2 ^ t) (z -ℤ base)) (g.apart a b) in
    raster_answer p t (OfTwo raster_kind f a b)
    (through _ _ _ (amid a.low b.low (held_low a va) (held_low b vb)))
    (g.limit a b va vb)
    (multiple_between p.hi p.lo base hi lo)
    (λ z r.
    let h = holds_in a r.x r.in_a in
    let k = holds_in b r.y r.in_b in
    subst (Held (row_at p t)) (sym r.is) (record {
      amid = amid r.x r.y h k;
      on = multiple_between (f r.x r.y) p.lo base (g.apart a b r.x r.y h k) lo;
    }))

-- a held number is on the raster of every smaller step
finer : (r : Row) (x : ℤ) (s : ℕ) → s ≤ r.step → Held r x → Multiple (2 ^ s) (x -ℤ r.low)
finer r x s l h = multiple_pow s r.step (x -ℤ r.low) l h.on

pub raster_add : Raster2 ◌+ℤ◌ ends_add (λ a b. min a.step b.step)
raster_add = record {
  hull = hull_add;
  low = λ a b va vb P g. g a.low b.low (held_low a va) (held_low b vb);
  high = λ a b va vb P g. g a.high b.high (held_high a va) (held_high b vb);
  apart = λ a b x y h k. sum_apart x a.low y b.low (finer a x _ (omega arith) h) (finer b y _ (omega arith) k);
  limit = λ a b va vb. let l = (valid_in a va).limit in omega arith;
}

pub raster_sub : Raster2 ◌-ℤ◌ ends_sub (λ a b. min a.step b.step)
raster_sub = record {
  hull = hull_sub;
  low = λ a b va vb P g. g a.low b.high (held_low a va) (held_high b vb);
  high = λ a b va vb P g. g a.high b.low (held_high a va) (held_low b vb);
  apart = λ a b x y h k. difference_apart x a.low y b.low (finer a x _ (omega arith) h) (finer b y _ (omega arith) k);
  limit = λ a b va vb. let l = (valid_in a va).limit in omega arith;
}

pub raster_mul : Raster2 ◌*ℤ◌ ends_mul power_mul
raster_mul = record {
  hull = hull_mul;
  low = λ a b va vb P g. pick_least4 P
      (g a.low b.low (held_low a va) (held_low b vb)) (g a.low b.high (held_low a va) (held_high b vb))
      (g a.high b.low (held_high a va) (held_low b vb)) (g a.high b.high (held_high a va) (held_high b vb));
  high = λ a b va vb P g. pick_greatest4 P
      (g a.low b.low (held_low a va) (held_low b vb)) (g a.low b.high (held_low a va) (held_high b vb))
      (g a.high b.low (held_high a va) (held_low b vb)) (g a.high b.high (held_high a va) (held_high b vb));
  apart = λ a b x y h k. product_apart (power_mul a b) a.step b.step (zeros a.step a.low) (zeros b.step b.low) x a.low y b.low
      (omega arith) (omega arith) (omega arith) h.on k.on (power_divides a.step 64 a.low) (power_divides b.step 64 b.low);
  limit = λ a b va vb. omega arith;
}

pub raster_min : Raster2 int_min ends_min power_min
raster_min = record {
  hull = hull_min;
  low = λ a b va vb P g. g a.low b.low (held_low a va) (held_low b vb);
  high = λ a b va vb P g. g a.high b.high (held_high a va) (held_high b vb);
  apart = λ a b x y h k. lesser_apart x a.low y b.low (finer a x _ (omega arith) h) (finer b y _ (omega arith) k) (power_divides (min a.step b.step) 64 (a.low -ℤ b.low));
  limit = λ a b va vb. let l = (valid_in a va).limit in omega arith;
}

pub raster_shr : (b : ℕ) → One raster_kind (shifted b) (ends_shr b) (λ a. raster (ends_shr b (ends a)) (a.step - min b 30))
raster_shr b a va =
    let p = ends_shr b (ends a) in
    let t = a.step - min b 30 in
    let amid : (x : ℤ) → Held a x → On p (shifted b x) = λ x h. (hull_shr b).all (ends a) x h.amid in
    let on : (x : ℤ) → Held a x → Multiple (2 ^ t) (shifted b x -ℤ p.lo) = λ x h. shift_apart a.step (min b 30) x a.low h.on in
    raster_answer p t (OfOne raster_kind (shifted b) a)
    (through _ _ _ (amid a.low (held_low a va)))
    (let l = (valid_in a va).limit in omega arith)
    (on a.high (held_high a va))
    (λ z r. let h = holds_in a r.x r.in_a in subst (Held (row_at p t)) (sym r.is) (record { amid = amid r.x h; on = on r.x h }))
