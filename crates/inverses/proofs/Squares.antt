-- Squares, backward: the three ways in which a number lies between the roots.
use Rattle.std.proofs.Common.{◌≡◌, ℤ, neg_ℤ, ◌≤ℤ◌, ◌<ℤ◌, arith}
use Rattle.std.proofs.lemmas.Int.{ints, by_lt_z}
use Rattle.whole.specs.Roots.{root_down, root_up}
use Rattle.whole.proofs.Products.{is_lt, not_lt}
use Rattle.whole.proofs.SquareRoots.{amid_roots, roots_above, roots_below}
use Rattle.boxes.specs.Boxes.{Ends}
use Rattle.ranges.specs.Hulls.{square}
use Rattle.ranges.specs.HullsLemmas.{ends_at}
use Rattle.inverses.specs.Inverses.{back_square}
use Rattle.inverses.specs.InverseLaws.{InverseOneOf}

pub square_inverse : (z x r : Ends) → r ≡ back_square z x → InverseOneOf square z x r
unfolding back_square
square_inverse z x r e u p h = rw e (
    let s = root_up z.lo in
    by_lt_z (neg_ℤ s) x.lo
    (λ a. rw (is_lt (neg_ℤ s) x.lo a) (roots_above u z.lo z.hi h (omega (arith, ints))))
    (λ a. by_lt_z x.hi s
    (λ b. rw (not_lt (neg_ℤ s) x.lo a, is_lt x.hi s b) (roots_below u z.lo z.hi h (omega (arith, ints))))
    (λ b. rw (not_lt (neg_ℤ s) x.lo a, not_lt x.hi s b) (amid_roots u z.hi h.high))))

-- the ends by the way that is taken
pub above_is : (z x : Ends) (l h : ℤ) → neg_ℤ (root_up z.lo) <ℤ x.lo → l ≡ root_up z.lo → h ≡ root_down z.hi →
    record { lo = l; hi = h } ≡ back_square z x
unfolding back_square
above_is z x l h a p q = rw (is_lt (neg_ℤ (root_up z.lo)) x.lo a) (ends_at _ _ _ _ p q)

pub below_is : (z x : Ends) (l h : ℤ) → x.lo ≤ℤ neg_ℤ (root_up z.lo) → x.hi <ℤ root_up z.lo → l ≡ neg_ℤ (root_down z.hi) → h ≡ neg_ℤ (root_up z.lo) →
    record { lo = l; hi = h } ≡ back_square z x
unfolding back_square
below_is z x l h a b p q = rw (not_lt (neg_ℤ (root_up z.lo)) x.lo a, is_lt x.hi (root_up z.lo) b) (ends_at _ _ _ _ p q)

pub around_is : (z x : Ends) (l h : ℤ) → x.lo ≤ℤ neg_ℤ (root_up z.lo) → root_up z.lo ≤ℤ x.hi → l ≡ neg_ℤ (root_down z.hi) → h ≡ root_down z.hi →
    record { lo = l; hi = h } ≡ back_square z x
unfolding back_square
around_is z x l h a b p q = rw (not_lt (neg_ℤ (root_up z.lo)) x.lo a, not_lt x.hi (root_up z.lo) b) (ends_at _ _ _ _ p q)
