-- Rounded quotients of whole numbers: how they are worked out, and what they are.
use Rattle.std.proofs.Common.{◌≡◌, ℕ, zero, suc, ◌<◌, ℤ, pos, negsuc, ◌+ℤ◌, ◌-ℤ◌, ◌*ℤ◌, neg_ℤ, ◌≤ℤ◌, ◌<ℤ◌, refl, arith}
use lib.Signed.{shr_z}
use Rattle.std.proofs.Math.IntN.{+ℤ_idl, neg_ℤ-neg_ℤ}
use Rattle.std.specs.Int.{int_div_euclid}
use Rattle.std.proofs.lemmas.Int.{ints, by_lt_z}
use Rattle.whole.specs.Quotients.{floor, ceiling}
use Rattle.whole.specs.Laws.{AtMost, AtLeast, RoundedDown, RoundedUp}
use Rattle.whole.proofs.Products.{mul_up, mul_add}
use Rattle.whole.proofs.Multiples.{neg_mul}
use Rattle.whole.proofs.Shifts.{floor_low, floor_high}

divide_up : (n : ℤ) (d : ℕ) → int_div_euclid n (pos d) ≡ shr_z n d
divide_up (pos a) d = refl
divide_up (negsuc a) d = refl

divide_down : (n : ℤ) (d : ℕ) → int_div_euclid n (negsuc d) ≡ neg_ℤ (shr_z n (suc d))
divide_down (pos a) d = refl
divide_down (negsuc a) d = refl

-- the Euclidean quotient is the floor by a positive divisor and the ceiling by a negative one
pub floor_plain : (n d : ℤ) → pos 0 <ℤ d → int_div_euclid n d ≡ floor n d
unfolding floor
floor_plain n (pos d) h = divide_up n d
floor_plain n (negsuc d) h = absurd (omega (arith, ints))

pub floor_turned : (n d : ℤ) → d <ℤ pos 0 → int_div_euclid (pos 0 -ℤ n) (pos 0 -ℤ d) ≡ floor n d
unfolding floor
floor_turned n (pos d) h = absurd (omega (arith, ints))
floor_turned n (negsuc d) h = rw (+ℤ_idl (neg_ℤ n), +ℤ_idl (neg_ℤ (negsuc d))) (divide_up (neg_ℤ n) (suc d))

pub ceiling_plain : (n d : ℤ) → d <ℤ pos 0 → int_div_euclid n d ≡ ceiling n d
unfolding floor ceiling
ceiling_plain n (pos d) h = absurd (omega (arith, ints))
ceiling_plain n (negsuc d) h = rw (neg_ℤ-neg_ℤ n) (divide_down n d)

pub ceiling_turned : (n d : ℤ) → pos 0 <ℤ d → int_div_euclid (pos 0 -ℤ n) (pos 0 -ℤ d) ≡ ceiling n d
unfolding floor ceiling
ceiling_turned n (pos zero) h = absurd (omega (arith, ints))
ceiling_turned n (pos (suc d)) h = rw (+ℤ_idl (neg_ℤ n), +ℤ_idl (neg_ℤ (pos (suc d)))) (divide_down (neg_ℤ n) d)
ceiling_turned n (negsuc d) h = absurd (omega (arith, ints))

-- a number is at most a floor shift exactly when its multiple is at most what is shifted
pub at_most_in : (n q : ℤ) (m : ℕ) → 0 < m → (q *ℤ pos m) ≤ℤ n → q ≤ℤ shr_z n m
at_most_in n q m p h = by_lt_z (shr_z n m) q
    (λ l.
    let a = mul_up (shr_z n m +ℤ pos 1) q (pos m) (omega (arith, ints)) (omega (arith, ints)) in
    let b = mul_add (shr_z n m) (pos 1) (pos m) in
    let c = floor_high m p n in
    absurd (omega (arith, ints)))
    (λ l. l)

at_most_out : (n q : ℤ) (m : ℕ) → 0 < m → q ≤ℤ shr_z n m → (q *ℤ pos m) ≤ℤ n
at_most_out n q m p h =
    let a = mul_up q (shr_z n m) (pos m) h (omega (arith, ints)) in
    let b = floor_low m p n in
    omega (arith, ints)

turned : (q : ℤ) (d : ℕ) → q *ℤ negsuc d ≡ neg_ℤ (q *ℤ pos (suc d))
turned q d = omega (arith, ints)

pub floor_in : (n d q : ℤ) → (d ≡ pos 0 → ⊥) → AtMost q n d → q ≤ℤ floor n d
unfolding floor
floor_in n (pos zero) q z h = absurd (z refl)
floor_in n (pos (suc d)) q z h = at_most_in n q (suc d) (omega arith) (h.up (omega (arith, ints)))
floor_in n (negsuc d) q z h =
    let a = h.down (omega (arith, ints)) in
    let e = turned q d in
    at_most_in (neg_ℤ n) q (suc d) (omega arith) (omega (arith, ints))

pub floor_out : (n d q : ℤ) → (d ≡ pos 0 → ⊥) → q ≤ℤ floor n d → AtMost q n d
unfolding floor
floor_out n (pos zero) q z h = absurd (z refl)
floor_out n (pos (suc d)) q z h = record { up = λ _. at_most_out n q (suc d) (omega arith) h; down = λ k. absurd (omega (arith, ints)) }
floor_out n (negsuc d) q z h =
    let a = at_most_out (neg_ℤ n) q (suc d) (omega arith) h in
    let e = turned q d in
    record { up = λ k. absurd (omega (arith, ints)); down = λ _. omega (arith, ints) }

-- at least n / d is, by the opposites, at most
mirrored : (q n d : ℤ) → AtLeast q n d → AtMost (neg_ℤ q) (neg_ℤ n) d
mirrored q n d h = let e = neg_mul q d in record {
  up = λ k. let a = h.up k in rw (← e) (omega (arith, ints));
  down = λ k. let a = h.down k in rw (← e) (omega (arith, ints));
}

unmirrored : (q n d : ℤ) → AtMost (neg_ℤ q) (neg_ℤ n) d → AtLeast q n d
unmirrored q n d h = let e = neg_mul q d in record {
  up = λ k. let a = rw (← e) at (h.up k) in omega (arith, ints);
  down = λ k. let a = rw (← e) at (h.down k) in omega (arith, ints);
}

pub ceiling_in : (n d q : ℤ) → (d ≡ pos 0 → ⊥) → AtLeast q n d → ceiling n d ≤ℤ q
unfolding ceiling
ceiling_in n d q z h = let a = floor_in (neg_ℤ n) d (neg_ℤ q) z (mirrored q n d h) in omega (arith, ints)

pub ceiling_out : (n d q : ℤ) → (d ≡ pos 0 → ⊥) → ceiling n d ≤ℤ q → AtLeast q n d
unfolding ceiling
ceiling_out n d q z h = unmirrored q n d (floor_out (neg_ℤ n) d (neg_ℤ q) z (omega (arith, ints)))

pub floor_rounds : (n d : ℤ) → (d ≡ pos 0 → ⊥) → RoundedDown n d (floor n d)
floor_rounds n d z = record { low = floor_out n d (floor n d) z (omega (arith, ints)); greatest = λ q h. floor_in n d q z h }

pub ceiling_rounds : (n d : ℤ) → (d ≡ pos 0 → ⊥) → RoundedUp n d (ceiling n d)
ceiling_rounds n d z = record { high = ceiling_out n d (ceiling n d) z (omega (arith, ints)); least = λ q h. ceiling_in n d q z h }

-- a floor shift is a quotient rounded down
pub shift_rounds : (n : ℤ) (m : ℕ) (r : ℤ) → 0 < m → r ≡ shr_z n m → RoundedDown n (pos m) r
unfolding floor
shift_rounds n m r p e = rw e (floor_rounds n (pos m) (λ e. omega (arith, ints)))
