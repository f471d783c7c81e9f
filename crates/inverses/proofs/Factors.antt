-- Products, backward: a factor lies between the corner quotients, where the other keeps its sign.
use Rattle.std.proofs.Common.{◌≡◌, true, false, ◌⊎◌, ℤ, pos, ◌*ℤ◌, ◌≤ℤ◌, ◌<ℤ◌, Some, None, Option, sym, ap, ◌∙◌, inl, inr, arith}
use Rattle.std.specs.Int.{int_max, int_min}
use Rattle.std.proofs.Math.IntN.{*ℤ_comm}
use Rattle.std.proofs.lemmas.Int.{ints, clamps, by_lt_z}
use Rattle.std.proofs.lemmas.Bool.{and_from, both_ways, cond_both, cond-false, cond-true}
use Rattle.whole.proofs.Factors.{amid_factor}
use Rattle.whole.proofs.Products.{is_le}
use Rattle.boxes.specs.Boxes.{Ends}
use Rattle.inverses.specs.Inverses.{around_zero, back_factor, quotients}
use Rattle.inverses.specs.InverseLaws.{InverseBoth, Known, Lies}

-- where the test fails, 0 is on one side of both ends
apart : (e : Ends) → around_zero e ≡ false → int_min e.lo e.hi ≤ℤ pos 0 → pos 0 ≤ℤ int_max e.lo e.hi → ⊥
apart e f l h = both_ways (around_zero e) f (and_from _ _ (is_le _ _ l) (is_le _ _ h))

-- ends between which a number lies are in order
one_sign : (e : Ends) (x : ℤ) → around_zero e ≡ false → Lies e x → (pos 0 <ℤ e.lo) ⊎ (e.hi <ℤ pos 0)
one_sign e x f p = by_lt_z (pos 0) e.lo inl
    (λ l. by_lt_z e.hi (pos 0) inr (λ h. absurd (apart e f (omega (arith, ints, clamps)) (omega (arith, ints, clamps)))))

factor_lies : (z y : Ends) (u v : ℤ) → around_zero y ≡ false → Lies y v → Lies z (u *ℤ v) → Lies (quotients z y) u
factor_lies z y u v f p h = amid_factor u v z.lo z.hi y.lo y.hi h p (one_sign y v f p)

pub factor_inverse : (z y : Ends) (r : Option Ends) → r ≡ back_factor z y → Known (InverseBoth ◌*ℤ◌ z y) r
unfolding back_factor
factor_inverse z y r e = rw e (cond_both (around_zero y) None (Some (quotients z y)) (Known (InverseBoth ◌*ℤ◌ z y))
    (λ t. tt)
    (λ f. record {
      first = λ v p u h. factor_lies z y u v f p h;
      second = λ v p u h. factor_lies z y u v f p (rw (*ℤ_comm u v) h);
    }))

pub factor_none : (z y : Ends) → around_zero y ≡ true → None ≡ back_factor z y
unfolding back_factor
factor_none z y t = sym (cond-true (around_zero y) None (Some (quotients z y)) t)

pub factor_some : (z y e : Ends) → around_zero y ≡ false → e ≡ quotients z y → Some e ≡ back_factor z y
unfolding back_factor
factor_some z y e f i = ap Some i ∙ sym (cond-false (around_zero y) None (Some (quotients z y)) f)
