-- The answers of the plain kind grow with their operands.
use Rattle.std.proofs.Common.{ℤ, ◌≤ℤ◌}
use Rattle.boxes.specs.Boxes.{Ends}
use Rattle.ranges.specs.Bounds.{Inside}
use Rattle.ranges.specs.Kind.{ends}
use Rattle.ranges.specs.Plains.{plain, row_of}
use Rattle.ranges.specs.PlainLaws.{Grows, GrowsOne, GrowsTwo, GrowingAnswers}
use Rattle.ranges.specs.Fitting.{valid_in, plain_by, plain_yes}
use Rattle.ranges.specs.HullsLemmas.{Hull1, Hull2, nested1, nested2, hull_add, hull_sub, hull_mul, hull_sqr, hull_min, hull_shr}
use Rattle.ranges.specs.Lawfulness.{bounded_in, ordered, unordered, one_order, two_order}

grows : (e p : Ends) → e.lo ≤ℤ e.hi → Inside e p → Grows (plain e) (plain p)
grows e p o i = plain_by p (Grows (plain e))
    (λ q. (row_of e, plain_yes e (ordered e o (bounded_in e p i (unordered p q))), i))
    (λ _. tt)

grows_one : (f : ℤ → ℤ) (e : Ends → Ends) → Hull1 f e → GrowsOne (λ a. plain (e (ends a)))
grows_one f e t a b w =
    grows (e (ends a)) (e (ends b)) (one_order f e t a w.small)
    (nested1 f e t (ends a) (ends b) (valid_in a w.small).order w.inside)

grows_two : (f : ℤ → ℤ → ℤ) (e : Ends → Ends → Ends) → Hull2 f e → GrowsTwo (λ a b. plain (e (ends a) (ends b)))
grows_two f e t a b a' b' w w' =
    grows (e (ends a) (ends a')) (e (ends b) (ends b')) (two_order f e t a a' w.small w'.small)
    (nested2 f e t (ends a) (ends b) (ends a') (ends b') (valid_in a w.small).order (valid_in a' w'.small).order w.inside w'.inside)

pub growing_answers : GrowingAnswers
growing_answers = record {
  sums = grows_two _ _ hull_add;
  differences = grows_two _ _ hull_sub;
  products = grows_two _ _ hull_mul;
  squares = grows_one _ _ hull_sqr;
  minima = grows_two _ _ hull_min;
  shifts = λ b. grows_one _ _ (hull_shr b);
}
