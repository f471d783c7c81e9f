-- Sums, differences, lessers and shifts, backward: no operand is lost.
use Rattle.std.proofs.Common.{◌≡◌, ℕ, ◌^◌, ◌≤◌, min, ℤ, ◌+ℤ◌, ◌-ℤ◌, arith, pow_mono}
use Rattle.std.specs.Int.{int_min}
use Rattle.std.proofs.lemmas.Nat.{pow_pos}
use Rattle.std.proofs.lemmas.Int.{ints, clamps, by_lt_z}
use Rattle.whole.proofs.Products.{is_lt, not_lt}
use Rattle.whole.proofs.Shifts.{amid_shift}
use Rattle.boxes.specs.Boxes.{Ends}
use Rattle.ranges.specs.Hulls.{shifted}
use Rattle.inverses.specs.Inverses.{back_lesser, back_minuend, back_shifted, back_subtrahend, back_sum, divisor}
use Rattle.inverses.specs.InverseLaws.{InverseBoth, InverseBothOf, InverseOne, InverseTwo, Lies, turned}

pub sum_inverse : (z y r : Ends) → r ≡ back_sum z y → InverseBoth ◌+ℤ◌ z y r
sum_inverse z y r e = rw e record {
  first = λ v p x h. record { low = omega (arith, ints); high = omega (arith, ints) };
  second = λ v p x h. record { low = omega (arith, ints); high = omega (arith, ints) };
}

pub minuend_inverse : (z y r : Ends) → r ≡ back_minuend z y → InverseTwo ◌-ℤ◌ z y r
minuend_inverse z y r e v p x h = rw e record { low = omega (arith, ints); high = omega (arith, ints) }

pub subtrahend_inverse : (z x r : Ends) → r ≡ back_subtrahend z x → InverseTwo (turned ◌-ℤ◌) z x r
subtrahend_inverse z x r e u p y h = rw e record { low = omega (arith, ints); high = omega (arith, ints) }

-- a u of which some lesser, of u and v, lies between the ends z
lesser_lies : (z x y : Ends) (u v : ℤ) → Lies x u → Lies y v → Lies z (int_min u v) → Lies (back_lesser z x y) u
lesser_lies z x y u v p q h = by_lt_z z.hi y.lo
    (λ l. rw (is_lt z.hi y.lo l) (record { low = omega (arith, ints, clamps); high = omega (arith, ints, clamps) }))
    (λ l. rw (not_lt z.hi y.lo l) (record { low = omega (arith, ints, clamps); high = p.high }))

pub lesser_inverse : (z x y r : Ends) → r ≡ back_lesser z x y → InverseBothOf int_min z x y r
lesser_inverse z x y r e = rw e record {
  first = λ v q u p h. lesser_lies z x y u v p q h;
  second = λ v q u p h. lesser_lies z x y u v p q (record { low = omega (arith, ints, clamps); high = omega (arith, ints, clamps) });
}

pub divisor_bound : (by : ℕ) → divisor by ≤ 2 ^ 30
divisor_bound by = let k : min by 30 ≤ 30 = omega arith in pow_mono k

pub shifted_inverse : (by : ℕ) (z r : Ends) → r ≡ back_shifted by z → InverseOne (shifted by) z r
shifted_inverse by z r e x h = rw e (amid_shift (divisor by) (pow_pos (min by 30)) x z.lo z.hi h)
