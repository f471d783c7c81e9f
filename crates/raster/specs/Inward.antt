-- Ends moved inward to a raster: squares, and what a range keeps.
use Rattle.std.specs.Prelude.{◌≡◌, ℕ, ◌^◌, ◌≤◌, not, ℤ, pos, ◌+ℤ◌, ◌-ℤ◌, ◌*ℤ◌, neg_ℤ, ◌≤ℤ◌, is_some, Some, None, Option, refl}
use Rattle.std.proofs.Common.{arith, sym, subst, ◌∙◌}
use Rattle.std.specs.Int.Signed.{shr_z}
use Rattle.std.proofs.lemmas.Int.{ints, clamps}
use Rattle.std.proofs.lemmas.Nat.{pow_pos}
use Rattle.std.proofs.lemmas.Bool.{both_ways, cond_both, false≢true}
use Rattle.std.specs.Int.{int_max, int_min}
use Rattle.whole.specs.Laws.{Amid, Multiple}
use Rattle.whole.proofs.Multiples.{neg_mul}
use Rattle.whole.proofs.Shifts.{floor_low}
use Rattle.whole.proofs.Congruences.{multiple_none, multiple_back, multiple_between, multiple_through, floor_greatest, cancelled}
use Rattle.boxes.specs.Boxes.{Ends}
use Rattle.ranges.specs.declared.row.Row.{Row}
use Rattle.ranges.specs.Bounds.{Bounded, Inside, fit}
use Rattle.ranges.specs.Hulls.{ends_sqr, square}
use Rattle.ranges.specs.Kind.{Valid, Holds, Answer, OfOne, One, Tells, Kept, Keeping, ends}
use Rattle.ranges.specs.Fitting.{fit_in, fit_out}
use Rattle.ranges.specs.HullsLemmas.{On, hull_sqr}
use Rattle.ranges.specs.Lawfulness.{ordered, unordered, bounded_in, through}
use Rattle.raster.specs.Rasters.{raster, raster_inward, raster_kept, raster_keeper, raster_kind, row_at, floored, inward, power_mul}
use Rattle.raster.specs.Stepping.{Fit, Held, valid_in, fits_out, holds_in, holds_out, held_low, raster_by}
use Rattle.raster.specs.Operations.{raster_mul}

-- a base less a distance, and a base plus a distance, against a number
less : (b f l : ℤ) → f ≤ℤ (b -ℤ l) → l ≤ℤ (b -ℤ f)
less b f l h = omega (arith, ints)

more : (b f h : ℤ) → f ≤ℤ (h -ℤ b) → (b +ℤ f) ≤ℤ h
more b f h k = omega (arith, ints)

least : (b f v : ℤ) → (b -ℤ v) ≤ℤ f → (b -ℤ f) ≤ℤ v
least b f v h = omega (arith, ints)

greatest : (b f v : ℤ) → (v -ℤ b) ≤ℤ f → v ≤ℤ (b +ℤ f)
greatest b f v h = omega (arith, ints)

taken : (b f : ℤ) → (b -ℤ f) -ℤ b ≡ neg_ℤ f
taken b f = omega (arith, ints)

turned : (b l v : ℤ) → l ≤ℤ v → (b -ℤ v) ≤ℤ (b -ℤ l)
turned b l v h = omega (arith, ints)

moved : (b h v : ℤ) → v ≤ℤ h → (v -ℤ b) ≤ℤ (h -ℤ b)
moved b h v k = omega (arith, ints)

module _ (base : ℤ) (t : ℕ) (e : Ends) where
  -- the moved ends lie between the ends, on the raster of base
  inside : Inside (inward base t e) e
  inside = record {
    low = less base (floored t (base -ℤ e.lo)) e.lo (floor_low (2 ^ t) (pow_pos t) (base -ℤ e.lo));
    high = more base (floored t (e.hi -ℤ base)) e.hi (floor_low (2 ^ t) (pow_pos t) (e.hi -ℤ base));
  }

  low_on : Multiple (2 ^ t) ((inward base t e).lo -ℤ base)
  low_on =
      let q = shr_z (base -ℤ e.lo) (2 ^ t) in
      record { times = neg_ℤ q; is = taken base (q *ℤ pos (2 ^ t)) ∙ neg_mul q (pos (2 ^ t)) }

  high_on : Multiple (2 ^ t) ((inward base t e).hi -ℤ base)
  high_on = let q = shr_z (e.hi -ℤ base) (2 ^ t) in record { times = q; is = cancelled base (q *ℤ pos (2 ^ t)) }

  -- the range with the moved ends holds exactly what lies between the ends on the raster of base
  into : (v : ℤ) → On e v → Multiple (2 ^ t) (v -ℤ base) → Held (row_at (inward base t e) t) v
  into v a m = record {
    amid = record {
      low = least base (floored t (base -ℤ e.lo)) v (floor_greatest (2 ^ t) (pow_pos t) (base -ℤ e.lo) (base -ℤ v) (multiple_back v base m) (turned base e.lo v a.low));
      high = greatest base (floored t (e.hi -ℤ base)) v (floor_greatest (2 ^ t) (pow_pos t) (e.hi -ℤ base) (v -ℤ base) m (moved base e.hi v a.high));
    };
    on = multiple_between v (inward base t e).lo base m low_on;
  }

  out_of : (v : ℤ) → Held (row_at (inward base t e) t) v → On e v × Multiple (2 ^ t) (v -ℤ base)
  out_of v h = (
    wide e.lo e.hi (inward base t e).lo (inward base t e).hi v inside.low inside.high h.amid,
    multiple_through v (inward base t e).lo base h.on low_on,
  )
    where
      wide : (l h l' h' v : ℤ) → l ≤ℤ l' → h' ≤ℤ h → Amid l' v h' → Amid l v h
      wide l h l' h' v p q a = record { low = omega (arith, ints); high = omega (arith, ints) }

  -- where there is such a number, the moved ends make a range
  inward_fit : t ≤ 31 → Bounded e → (v : ℤ) → On e v → Multiple (2 ^ t) (v -ℤ base) → Fit (inward base t e) t
  inward_fit l b v a m = record {
    ordered = ordered (inward base t e) (through _ _ _ (into v a m).amid) (bounded_in (inward base t e) e inside b);
    limit = l;
    whole = multiple_between (inward base t e).hi (inward base t e).lo base high_on low_on;
  }

  -- the answer: that range, or nothing where the ends leave the bound or have no such number between them
  inward_by : t ≤ 31 → (P : Option Row → Type 0) →
      (Bounded e → Fit (inward base t e) t → P (Some (row_at (inward base t e) t))) →
      ((Bounded e → (v : ℤ) → On e v → Multiple (2 ^ t) (v -ℤ base) → ⊥) → P None) → P (raster_inward base t e)
  unfolding raster_inward
  inward_by l P is not = cond_both (fit e) (raster (inward base t e) t) None P
      (λ f. raster_by (inward base t e) t P (is (unordered e (fit_in e f))) (λ n. not (λ b v a m. n (inward_fit l b v a m))))
      (λ f. not (λ b v a m. both_ways (fit e) f (fit_out e (ordered e (through _ _ _ a) b))))

pub raster_sqr : One raster_kind square ends_sqr (λ a. raster_inward (square a.low) (power_mul a a) (ends_sqr (ends a)))
raster_sqr a va =
    let e = ends_sqr (ends a) in
    let t = power_mul a a in
    let base = square a.low in
    let amid : (x : ℤ) → Held a x → On e (square x) = λ x h. hull_sqr.all (ends a) x h.amid in
    inward_by base t e (raster_mul.limit a a va va) (Answer raster_kind e (OfOne raster_kind square a))
    (λ b f. record {
      valid = fits_out (inward base t e) t f;
      inside = inside base t e;
      bounded = b;
      holds = λ z r.
          let h = holds_in a r.x r.in_a in
          subst (λ w. Holds raster_kind (row_at (inward base t e) t) w) (sym r.is)
          (holds_out (row_at (inward base t e) t) (square r.x) (into base t e (square r.x) (amid r.x h) (raster_mul.apart a a r.x r.x h h)));
    })
    (λ n b. n b base (amid a.low (held_low a va)) (multiple_none (base -ℤ base) (omega (arith, ints))))

cut_on : (l h x y v : ℤ) → Amid l v h → x ≤ℤ v → v ≤ℤ y → Amid (int_max l x) v (int_min h y)
cut_on l h x y v a p q = record { low = omega (arith, ints, clamps); high = omega (arith, ints, clamps) }

cut_off : (l h x y v : ℤ) → Amid (int_max l x) v (int_min h y) → Amid l v h × (x ≤ℤ v) × (v ≤ℤ y)
cut_off l h x y v a = (record { low = omega (arith, ints, clamps); high = omega (arith, ints, clamps) }, omega (arith, ints, clamps), omega (arith, ints, clamps))

cut_inside : (l h x y : ℤ) → Inside (record { lo = int_max l x; hi = int_min h y }) (record { lo = l; hi = h })
cut_inside l h x y = record { low = omega (arith, ints, clamps); high = omega (arith, ints, clamps) }

pub raster_keeps : Keeping raster_kind raster_keeper
raster_keeps a x y va =
    let w = valid_in a va in
    let e : Ends = record { lo = int_max a.low x; hi = int_min a.high y } in
    let c = row_at (inward a.low a.step e) a.step in
    inward_by a.low a.step e w.limit (Kept raster_kind a x y)
    (λ b f. record {
      valid = fits_out (inward a.low a.step e) a.step f;
      only = λ v h.
          let o = out_of a.low a.step e v (holds_in c v h) in
          let p = cut_off a.low a.high x y v o.0 in
          (holds_out a v (record { amid = p.0; on = o.1 }), p.1, p.2);
      all = λ v h p q.
          let k = holds_in a v h in
          holds_out c v (into a.low a.step e v (cut_on a.low a.high x y v k.amid p q) k.on);
    })
    (λ n v h p q.
    let k = holds_in a v h in
    n (bounded_in e (ends a) (cut_inside a.low a.high x y) (unordered (ends a) w.ordered)) v (cut_on a.low a.high x y v k.amid p q) k.on)

apart_by : (a : Row) (x y : ℤ) (o : Option Row) → Kept raster_kind a x y o → Tells (not (is_some o)) ((v : ℤ) → Holds raster_kind a v → x ≤ℤ v → v ≤ℤ y → ⊥)
apart_by a x y None n = (λ _. n, λ _. refl)
apart_by a x y (Some c) k =
    let r = k.only c.low (holds_out c c.low (held_low c k.valid)) in
    (λ e. absurd (false≢true e), λ f. absurd (f c.low r.0 r.1 r.2))

pub apart_tells : (a : Row) (x y : ℤ) → Valid raster_kind a → Tells (not (is_some (raster_kept a x y))) ((v : ℤ) → Holds raster_kind a v → x ≤ℤ v → v ≤ℤ y → ⊥)
apart_tells a x y va = apart_by a x y (raster_kept a x y) (raster_keeps a x y va)
