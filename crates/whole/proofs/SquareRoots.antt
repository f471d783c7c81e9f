-- A number whose square is known between two numbers lies between their roots, on either side of 0.
use Rattle.std.proofs.Common.{◌≡◌, ℤ, pos, ◌*ℤ◌, neg_ℤ, ◌≤ℤ◌, ◌<ℤ◌, arith}
use Rattle.std.proofs.Math.IntN.{*ℤ_comm}
use Rattle.std.proofs.lemmas.Int.{ints, by_lt_z}
use Rattle.whole.specs.Laws.{Amid}
use Rattle.whole.specs.Roots.{root_down, root_up}
use Rattle.whole.proofs.Multiples.{neg_mul}
use Rattle.whole.proofs.Products.{square_pos}
use Rattle.whole.proofs.Roots.{greatest_root, least_root}

square_neg : (x : ℤ) → neg_ℤ x *ℤ neg_ℤ x ≡ x *ℤ x
square_neg x = let e = neg_mul x (neg_ℤ x) in let f = neg_mul x x in let g = *ℤ_comm x (neg_ℤ x) in omega (arith, ints)

-- a square of at least n is that of a number at least the root of n away from 0
root_above : (x n : ℤ) → n ≤ℤ (x *ℤ x) → pos 0 ≤ℤ x → root_up n ≤ℤ x
root_above x n h p = (least_root n).least x p h

root_below : (x n : ℤ) → n ≤ℤ (x *ℤ x) → x ≤ℤ pos 0 → x ≤ℤ neg_ℤ (root_up n)
root_below x n h p =
    let a = (least_root n).least (neg_ℤ x) (omega (arith, ints)) (rw (square_neg x) h) in
    omega (arith, ints)

-- a square of at most n is that of a number at most the root of n away from 0
pub amid_roots : (x n : ℤ) → (x *ℤ x) ≤ℤ n → Amid (neg_ℤ (root_down n)) x (root_down n)
amid_roots x n h =
    let p = square_pos x in
    let g = greatest_root n (omega (arith, ints)) in
    let a = g.greatest x h in
    let b = g.greatest (neg_ℤ x) (rw (square_neg x) h) in
    record { low = omega (arith, ints); high = a }

-- a number that is not as low as the opposite of the lower root is at least that root
pub roots_above : (x a b : ℤ) → Amid a (x *ℤ x) b → neg_ℤ (root_up a) <ℤ x → Amid (root_up a) x (root_down b)
roots_above x a b h p = record {
  low = by_lt_z x (pos 0)
      (λ n. let q = root_below x a h.low (omega (arith, ints)) in absurd (omega (arith, ints)))
      (λ n. root_above x a h.low n);
  high = (amid_roots x b h.high).high;
}

-- a number that is not as high as the lower root is at most its opposite
pub roots_below : (x a b : ℤ) → Amid a (x *ℤ x) b → x <ℤ root_up a → Amid (neg_ℤ (root_down b)) x (neg_ℤ (root_up a))
roots_below x a b h p = record {
  low = (amid_roots x b h.high).low;
  high = by_lt_z (pos 0) x
      (λ n. let q = root_above x a h.low (omega (arith, ints)) in absurd (omega (arith, ints)))
      (λ n. root_below x a h.low n);
}
