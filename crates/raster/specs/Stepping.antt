-- Rows of the raster kind: which there are, what they hold, and the answer with given ends and steps.
use Rattle.std.specs.Prelude.{◌≡◌, ℕ, ◌/◌, ◌%◌, ◌^◌, ◌≤◌, true, ◌&&◌, ℤ, pos, ◌-ℤ◌, Some, None, Option, int_le, nat_le, unsigned_abs, refl}
use Rattle.std.proofs.Common.{div-add-mod', arith}
use Rattle.std.proofs.lemmas.Int.{ints}
use Rattle.std.proofs.lemmas.Bool.{and_parts, and_from, both_ways, cond_both, eqb-true, eq-eqb, leb-true, le-leb}
use Rattle.whole.specs.Laws.{Amid, Multiple}
use Rattle.whole.proofs.Products.{is_le, le_in}
use Rattle.whole.proofs.Multiples.{multiple_in, multiple_out}
use Rattle.whole.proofs.Congruences.{multiple_none}
use Rattle.boxes.specs.Boxes.{Ends}
use Rattle.ranges.specs.declared.row.Row.{Row}
use Rattle.ranges.specs.Bounds.{Ordered, fit}
use Rattle.ranges.specs.Kind.{Valid, Holds, ends}
use Rattle.ranges.specs.Fitting.{fit_in, fit_out}
use Rattle.raster.specs.declared.raster.Raster.{Raster}
use Rattle.raster.specs.Rasters.{row_at, divided, raster_fit, raster, raster_kind, raster_row}
use Rattle.raster.specs.RasterLaws.{Stepped}

-- ends and a power that make a raster range
pub record Fit (e : Ends) (t : ℕ) : Type 0 where
  pub ordered : Ordered e
  pub limit : t ≤ 31
  pub whole : Multiple (2 ^ t) (e.hi -ℤ e.lo)

-- x lies between the ends, a multiple of 2^t from the low one
pub record Held (r : Row) (x : ℤ) : Type 0 where
  pub amid : Amid r.low x r.high
  pub on : Multiple (2 ^ r.step) (x -ℤ r.low)

pub divided_in : (t : ℕ) (n : ℤ) → divided t n ≡ true → Multiple (2 ^ t) n
divided_in t n e = multiple_in (2 ^ t) n (eqb-true (unsigned_abs n % 2 ^ t) 0 e)

pub divided_out : (t : ℕ) (n : ℤ) → Multiple (2 ^ t) n → divided t n ≡ true
divided_out t n m = eq-eqb (unsigned_abs n % 2 ^ t) 0 (multiple_out (2 ^ t) n m)

fits_in : (e : Ends) (t : ℕ) → raster_fit e t ≡ true → Fit e t
fits_in e t b =
    let p = and_parts (fit e) (nat_le t 31 && divided t (e.hi -ℤ e.lo)) b in
    let q = and_parts (nat_le t 31) (divided t (e.hi -ℤ e.lo)) p.1 in
    record { ordered = fit_in e p.0; limit = leb-true t 31 q.0; whole = divided_in t (e.hi -ℤ e.lo) q.1 }

pub fits_out : (e : Ends) (t : ℕ) → Fit e t → raster_fit e t ≡ true
fits_out e t f = and_from _ _ (fit_out e f.ordered) (and_from _ _ (le-leb t 31 f.limit) (divided_out t (e.hi -ℤ e.lo) f.whole))

pub valid_in : (r : Row) → Valid raster_kind r → Fit (ends r) r.step
valid_in r v = fits_in (ends r) r.step v

pub raster_valid : (p : Raster) → Valid raster_kind (raster_row p)
raster_valid p = fits_out (record { lo = p.low; hi = p.high }) p.power.log (record {
  ordered = record { above = p.above; order = p.order; below = p.below };
  limit = p.power.limit;
  whole = multiple_in (2 ^ p.power.log) (p.high -ℤ p.low) p.whole;
})

pub holds_in : (r : Row) (x : ℤ) → Holds raster_kind r x → Held r x
holds_in r x h =
    let p = and_parts (int_le r.low x) (int_le x r.high && divided r.step (x -ℤ r.low)) h in
    let q = and_parts (int_le x r.high) (divided r.step (x -ℤ r.low)) p.1 in
    record { amid = record { low = le_in _ _ p.0; high = le_in _ _ q.0 }; on = divided_in r.step (x -ℤ r.low) q.1 }

pub holds_out : (r : Row) (x : ℤ) → Held r x → Holds raster_kind r x
holds_out r x h = and_from _ _ (is_le _ _ h.amid.low) (and_from _ _ (is_le _ _ h.amid.high) (divided_out r.step (x -ℤ r.low) h.on))

pub held_low : (r : Row) → Valid raster_kind r → Held r r.low
held_low r v = record {
  amid = record { low = omega (arith, ints); high = (valid_in r v).ordered.order };
  on = multiple_none (r.low -ℤ r.low) (omega (arith, ints));
}

pub held_high : (r : Row) → Valid raster_kind r → Held r r.high
held_high r v = record {
  amid = record { low = (valid_in r v).ordered.order; high = omega (arith, ints) };
  on = (valid_in r v).whole;
}

-- a held number is a whole number of steps above the low end
pub stepped_out : (r : Row) (x : ℤ) → Held r x → Stepped r x
stepped_out r x h =
    let a = h.amid.low in
    let z = multiple_out (2 ^ r.step) (x -ℤ r.low) h.on in
    record {
      steps = unsigned_abs (x -ℤ r.low) / 2 ^ r.step;
      is = omega (arith, ints, div-add-mod' (unsigned_abs (x -ℤ r.low)) (2 ^ r.step));
      most = h.amid.high;
    }

pub stepped_in : (r : Row) (x : ℤ) → Stepped r x → Held r x
stepped_in r x s = let e = s.is in record {
  amid = record { low = omega (arith, ints); high = s.most };
  on = record { times = pos s.steps; is = omega (arith, ints) };
}

-- ends and steps that make a raster range give its row, and others nothing
pub raster_by : (e : Ends) (t : ℕ) (P : Option Row → Type 0) → (Fit e t → P (Some (row_at e t))) → ((Fit e t → ⊥) → P None) → P (raster e t)
unfolding raster
raster_by e t P is not = cond_both (raster_fit e t) (Some (row_at e t)) None P (λ b. is (fits_in e t b)) (λ b. not (λ f. both_ways (raster_fit e t) b (fits_out e t f)))

pub raster_yes : (e : Ends) (t : ℕ) → Fit e t → raster e t ≡ Some (row_at e t)
raster_yes e t f = raster_by e t (λ o. o ≡ Some (row_at e t)) (λ _. refl) (λ n. absurd (n f))

pub raster_no : (e : Ends) (t : ℕ) → (Fit e t → ⊥) → raster e t ≡ None
raster_no e t n = raster_by e t (λ o. o ≡ None) (λ f. absurd (n f)) (λ _. refl)

-- a range with those ends is the answer
pub raster_is : (l h l' h' : ℤ) (t : ℕ) → l ≡ l' → h ≡ h' → Fit (record { lo = l'; hi = h' }) t → Some (row_at (record { lo = l; hi = h }) t) ≡ raster (record { lo = l'; hi = h' }) t
raster_is l h l' h' t e g f = let y = raster_yes (record { lo = l'; hi = h' }) t f in cc
