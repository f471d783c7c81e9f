-- Each answer of the plain kind is the least plain range that holds every result.
use Rattle.std.proofs.Common.{◌≡◌, ℤ, ◌≤ℤ◌, refl, arith}
use Rattle.std.proofs.lemmas.Int.{ints}
use Rattle.boxes.specs.Boxes.{Ends}
use Rattle.ranges.specs.declared.row.Row.{Row}
use Rattle.ranges.specs.Bounds.{Inside, point}
use Rattle.ranges.specs.Kind.{OfOne, OfTwo, ends}
use Rattle.ranges.specs.Plains.{plain, plain_kind, row_of}
use Rattle.ranges.specs.PlainLaws.{Covers, Least, LeastOne, LeastTwo, LeastAnswers}
use Rattle.ranges.specs.Fitting.{valid_in, row_valid, holds_in, holds_out, plain_by}
use Rattle.ranges.specs.HullsLemmas.{On, Hull1, Hull2, hull_add, hull_sub, hull_mul, hull_sqr, hull_min, hull_shr}
use Rattle.ranges.specs.Lawfulness.{bounded_in, plain_lawful, ordered, one_order, one_all, two_order, two_all}

-- ends that are results lie within every range that holds them
around : (e : Ends) (P : ℤ → Type 0) → P e.lo → P e.hi → (d : Row) → Covers P d → Inside e (ends d)
around e P l h d c = record { low = (holds_in d e.lo (c.all e.lo l)).low; high = (holds_in d e.hi (c.all e.hi h)).high }

least : (e : Ends) (P : ℤ → Type 0) → e.lo ≤ℤ e.hi → ((z : ℤ) → P z → On e z) → P e.lo → P e.hi → Least P (plain e)
least e P order all l h = plain_by e (Least P)
    (λ o. (record { valid = row_valid e o; all = λ z p. holds_out (row_of e) z (all z p) }, around e P l h))
    (λ n d c. n (ordered e order (bounded_in e (ends d) (around e P l h d c) (plain_lawful.bounded d c.valid))))

least_one : (f : ℤ → ℤ) (e : Ends → Ends) → Hull1 f e → LeastOne f (λ a. plain (e (ends a)))
least_one f e t a va =
    let o = (valid_in a va).order in
    let is : (x : ℤ) → On (ends a) x → OfOne plain_kind f a (f x) = λ x p. record { x = x; in_a = holds_out a x p; is = refl } in
    least (e (ends a)) (OfOne plain_kind f a) (one_order f e t a va) (one_all f e t a)
    (t.low (ends a) o (OfOne plain_kind f a) is)
    (t.high (ends a) o (OfOne plain_kind f a) is)

least_two : (f : ℤ → ℤ → ℤ) (e : Ends → Ends → Ends) → Hull2 f e → LeastTwo f (λ a b. plain (e (ends a) (ends b)))
least_two f e t a b va vb =
    let o = (valid_in a va).order in
    let u = (valid_in b vb).order in
    let is : (x y : ℤ) → On (ends a) x → On (ends b) y → OfTwo plain_kind f a b (f x y) = λ x y p q. record { x = x; y = y; in_a = holds_out a x p; in_b = holds_out b y q; is = refl } in
    least (e (ends a) (ends b)) (OfTwo plain_kind f a b) (two_order f e t a b va vb) (two_all f e t a b)
    (t.low (ends a) (ends b) o u (OfTwo plain_kind f a b) is)
    (t.high (ends a) (ends b) o u (OfTwo plain_kind f a b) is)

pub least_answers : LeastAnswers
least_answers = record {
  constants = λ c. least (point c) (λ z. z ≡ c) (omega (arith, ints)) (λ z e. record { low = omega (arith, ints); high = omega (arith, ints) }) refl refl;
  sums = least_two _ _ hull_add;
  differences = least_two _ _ hull_sub;
  products = least_two _ _ hull_mul;
  squares = least_one _ _ hull_sqr;
  minima = least_two _ _ hull_min;
  shifts = λ b. least_one _ _ (hull_shr b);
}
