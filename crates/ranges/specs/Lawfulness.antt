-- The plain kind is lawful, and keeps.
use Rattle.std.specs.Prelude.{◌≡◌, ℕ, ◌&&◌, T, ℤ, ◌+ℤ◌, ◌-ℤ◌, ◌*ℤ◌, ◌≤ℤ◌, ◌<ℤ◌, int_le, int_lt, refl}
use Rattle.std.proofs.Common.{arith, sym, ap, subst, ◌∙◌}
use Rattle.std.proofs.lemmas.Int.{ints, clamps, by_lt_z}
use Rattle.std.proofs.lemmas.Bool.{and_parts, and_from}
use Rattle.std.specs.Int.{int_max, int_min}
use Rattle.std.specs.Option.{unwrap_or}
use Rattle.whole.specs.Laws.{Amid}
use Rattle.whole.proofs.Products.{is_le, le_in}
use Rattle.boxes.specs.Boxes.{Ends, nought}
use Rattle.ranges.specs.declared.row.Row.{Row}
use Rattle.ranges.specs.Bounds.{Bounded, Inside, Ordered, point}
use Rattle.ranges.specs.Hulls.{ends_add, ends_sub, ends_mul, ends_sqr, ends_min, ends_shr, square, shifted}
use Rattle.ranges.specs.Kind.{Kind, Valid, Holds, ends, Answer, OfOne, OfTwo, One, Two, Spans, Constant, Tells, Lawful, Keeping, Kept}
use Rattle.ranges.specs.Plains.{plain, plain_kind, plain_keeper, row_of}
use Rattle.ranges.specs.Fitting.{valid_in, valid_step, row_valid, holds_in, holds_out, plain_by, plain_yes}
use Rattle.ranges.specs.HullsLemmas.{On, Hull1, Hull2, low_on, high_on, hull_add, hull_sub, hull_mul, hull_sqr, hull_min, hull_shr}

pub unordered : (e : Ends) → Ordered e → Bounded e
unordered e o = record { above = o.above; below = o.below }

pub ordered : (e : Ends) → e.lo ≤ℤ e.hi → Bounded e → Ordered e
ordered e o b = record { above = b.above; order = o; below = b.below }

-- ends within bounded ones are bounded
pub bounded_in : (e p : Ends) → Inside e p → Bounded p → Bounded e
bounded_in e p i b = record { above = omega (arith, ints); below = omega (arith, ints) }

-- the plain answer, where the ends are in order and every result lies between them
plain_answer : (e : Ends) (R : ℤ → Type 0) → e.lo ≤ℤ e.hi → ((z : ℤ) → R z → On e z) → Answer plain_kind e R (plain e)
plain_answer e R order hull = plain_by e (Answer plain_kind e R)
    (λ o. record {
      valid = row_valid e o;
      inside = record { low = omega (arith, ints); high = omega (arith, ints) };
      bounded = unordered e o;
      holds = λ z r. holds_out (row_of e) z (hull z r);
    })
    (λ n b. n (ordered e order b))

pub on_at : (e : Ends) (z w : ℤ) → z ≡ w → On e w → On e z
on_at e z w q p = rw q p

pub through : (l z h : ℤ) → Amid l z h → l ≤ℤ h
through l z h p = omega (arith, ints)

low_in : (r : Row) → Valid plain_kind r → On (ends r) r.low
low_in r v = low_on (ends r) (valid_in r v).order

-- every result lies between the ends of the answer, which are in order
pub one_order : (f : ℤ → ℤ) (e : Ends → Ends) → Hull1 f e → (a : Row) → Valid plain_kind a → (e (ends a)).lo ≤ℤ (e (ends a)).hi
one_order f e t a va = through _ _ _ (t.all (ends a) a.low (low_in a va))

pub one_all : (f : ℤ → ℤ) (e : Ends → Ends) → Hull1 f e → (a : Row) (z : ℤ) → OfOne plain_kind f a z → On (e (ends a)) z
one_all f e t a z r = on_at (e (ends a)) z (f r.x) r.is (t.all (ends a) r.x (holds_in a r.x r.in_a))

pub two_order : (f : ℤ → ℤ → ℤ) (e : Ends → Ends → Ends) → Hull2 f e → (a b : Row) → Valid plain_kind a → Valid plain_kind b → (e (ends a) (ends b)).lo ≤ℤ (e (ends a) (ends b)).hi
two_order f e t a b va vb = through _ _ _ (t.all (ends a) (ends b) a.low b.low (low_in a va) (low_in b vb))

pub two_all : (f : ℤ → ℤ → ℤ) (e : Ends → Ends → Ends) → Hull2 f e → (a b : Row) (z : ℤ) → OfTwo plain_kind f a b z → On (e (ends a) (ends b)) z
two_all f e t a b z r = on_at (e (ends a) (ends b)) z (f r.x r.y) r.is (t.all (ends a) (ends b) r.x r.y (holds_in a r.x r.in_a) (holds_in b r.y r.in_b))

plain_one : (f : ℤ → ℤ) (e : Ends → Ends) → Hull1 f e → One plain_kind f e (λ a. plain (e (ends a)))
plain_one f e t a va = plain_answer (e (ends a)) (OfOne plain_kind f a) (one_order f e t a va) (one_all f e t a)

plain_two : (f : ℤ → ℤ → ℤ) (e : Ends → Ends → Ends) → Hull2 f e → Two plain_kind f e (λ a b. plain (e (ends a) (ends b)))
plain_two f e t a b va vb = plain_answer (e (ends a) (ends b)) (OfTwo plain_kind f a b) (two_order f e t a b va vb) (two_all f e t a b)

plain_spans : (e : Ends) → Ordered e → Spans plain_kind e (row_of e)
plain_spans e o = record { valid = row_valid e o; same = refl; holds = λ x p q. holds_out (row_of e) x (record { low = p; high = q }) }

plain_constant : (c : ℤ) → Constant plain_kind c (plain (point c))
plain_constant c = plain_by (point c) (Constant plain_kind c)
    (λ o. (unordered (point c) o, plain_spans (point c) o))
    (λ n b. n (ordered (point c) (omega (arith, ints)) b))

-- whether the ends lie within, for any kind whose ends are held and bound what is held
pub within_by : (k : Kind) (r : Row) (l h : ℤ) → Holds k r r.low → Holds k r r.high → ((x : ℤ) → Holds k r x → On (ends r) x) →
    Tells (int_le l r.low && int_le r.high h) ((x : ℤ) → Holds k r x → (l ≤ℤ x) × (x ≤ℤ h))
within_by k r l h first last on = (
  λ e x v.
      let p = and_parts (int_le l r.low) (int_le r.high h) e in
      let u = le_in l r.low p.0 in
      let w = le_in r.high h p.1 in
      let m = on x v in
      (omega (arith, ints), omega (arith, ints)),
  λ f. and_from _ _ (is_le _ _ (f r.low first).0) (is_le _ _ (f r.high last).1),
)

within_tells : (r : Row) (l h : ℤ) → Valid plain_kind r → Tells (int_le l r.low && int_le r.high h) ((x : ℤ) → Holds plain_kind r x → (l ≤ℤ x) × (x ≤ℤ h))
within_tells r l h v = within_by plain_kind r l h (holds_out r r.low (low_in r v)) (holds_out r r.high (high_on (ends r) (valid_in r v).order)) (holds_in r)

apart_tells : (r : Row) (l h : ℤ) → Valid plain_kind r → Tells (int_lt (int_min r.high h) (int_max r.low l)) ((x : ℤ) → Holds plain_kind r x → l ≤ℤ x → x ≤ℤ h → ⊥)
apart_tells r l h v =
    let o = valid_in r v in (
      λ e x k p q.
          let m = holds_in r x k in
          let t : int_min r.high h <ℤ int_max r.low l = record { lt = subst T (sym e) tt } in
          omega (arith, ints, clamps),
      λ f. by_lt_z (int_min r.high h) (int_max r.low l)
          (λ t. grind (arith, ints))
          (λ g. absurd (f (int_max r.low l)
          (holds_out r (int_max r.low l) (record { low = omega (arith, ints, clamps); high = omega (arith, ints, clamps) }))
          (omega (arith, ints, clamps)) (omega (arith, ints, clamps)))),
    )

stepped : (r : Row) → 0 ≡ r.step → row_of (ends r) ≡ r
stepped r s = let f : ℕ → Row = λ n. record { low = r.low; high = r.high; step = n } in ap f s

zero_valid : Valid plain_kind (row_of nought)
zero_valid = refl

pub plain_lawful : Lawful plain_kind
plain_lawful = record {
  first = λ r v. holds_out r r.low (low_in r v);
  last = λ r v. holds_out r r.high (high_on (ends r) (valid_in r v).order);
  between = λ r x v h. let m = holds_in r x h in (m.low, m.high);
  bounded = λ r v. unordered (ends r) (valid_in r v);
  sides = λ l h o. plain_spans (record { lo = l; hi = h }) o;
  constants = plain_constant;
  sums = plain_two ◌+ℤ◌ ends_add hull_add;
  differences = plain_two ◌-ℤ◌ ends_sub hull_sub;
  products = plain_two ◌*ℤ◌ ends_mul hull_mul;
  squares = plain_one square ends_sqr hull_sqr;
  minima = plain_two int_min ends_min hull_min;
  shifts = λ b. plain_one (shifted b) (ends_shr b) (hull_shr b);
  withins = within_tells;
  aparts = apart_tells;
  fixes = λ r. plain_by (ends r) (λ o. Valid plain_kind (unwrap_or o (row_of nought))) (row_valid (ends r)) (λ _. zero_valid);
  back = λ r v. ap (λ o. unwrap_or o (row_of nought)) (plain_yes (ends r) (valid_in r v)) ∙ stepped r (sym (valid_step r v));
}

pub plain_keeps : Keeping plain_kind plain_keeper
plain_keeps a x y v =
    let w = valid_in a v in
    let e : Ends = record { lo = int_max a.low x; hi = int_min a.high y } in
    plain_by e (Kept plain_kind a x y)
    (λ o. record {
      valid = row_valid e o;
      only = λ z h. let m = holds_in (row_of e) z h in
          (holds_out a z (record { low = omega (arith, ints, clamps); high = omega (arith, ints, clamps) }), omega (arith, ints, clamps), omega (arith, ints, clamps));
      all = λ z h p q. let m = holds_in a z h in
          holds_out (row_of e) z (record { low = omega (arith, ints, clamps); high = omega (arith, ints, clamps) });
    })
    (λ n z h p q. let m = holds_in a z h in
    n (record { above = omega (arith, ints, clamps); order = omega (arith, ints, clamps); below = omega (arith, ints, clamps) }))
