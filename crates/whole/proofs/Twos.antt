-- The trailing zero bits of a number tell how often 2 divides it.
use Rattle.std.proofs.Common.{◌≡◌, ℕ, zero, suc, ◌*◌, ◌/◌, ◌%◌, ◌^◌, ◌≤◌, min, ℤ, nat_abs, refl, ap, ◌∙◌, div-add-mod', arith}
use native.Mathlib.Nat.{pow-succ', mul-mod_left}
use lib.Count.{count_trailing_zeros, under}
use Rattle.whole.specs.Laws.{Multiple, GreatestPower}
use Rattle.whole.proofs.Multiples.{multiple_in, multiple_out}

-- 2^j divides n where j is at most the number of its trailing zeros
trailing_divides : (k n j : ℕ) → j ≤ count_trailing_zeros k n → (q : ℕ) × (n ≡ q * 2 ^ j)
unfolding count_trailing_zeros
trailing_divides k n zero h = (n, omega arith)
trailing_divides zero n (suc j) h = absurd (omega arith)
trailing_divides (suc k) n (suc j) h = go (n % 2) refl h (λ i. trailing_divides k (n / 2) i)
  where
    go : (d : ℕ) → n % 2 ≡ d → suc j ≤ under d (count_trailing_zeros k (n / 2)) → ((i : ℕ) → i ≤ count_trailing_zeros k (n / 2) → (q : ℕ) × (n / 2 ≡ q * 2 ^ i)) → (q : ℕ) × (n ≡ q * 2 ^ suc j)
    go zero e l more = let r = more j (omega arith) in (r.0, rw (pow-succ' 2 j) (omega (arith, div-add-mod' n 2, r.1)))
    go (suc d) e l more = absurd (omega arith)

-- and, among the k bits, only there
trailing_greatest : (k n j q : ℕ) → j ≤ k → n ≡ q * 2 ^ j → j ≤ count_trailing_zeros k n
unfolding count_trailing_zeros
trailing_greatest k n zero q l h = omega arith
trailing_greatest zero n (suc j) q l h = absurd (omega arith)
trailing_greatest (suc k) n (suc j) q l h =
    let e : n ≡ q * 2 ^ j * 2 = h ∙ rw (pow-succ' 2 j) (omega arith) in
    go (n % 2) refl e (λ f. trailing_greatest k (n / 2) j q (omega arith) f)
  where
    go : (d : ℕ) → n % 2 ≡ d → n ≡ q * 2 ^ j * 2 → (n / 2 ≡ q * 2 ^ j → j ≤ count_trailing_zeros k (n / 2)) → suc j ≤ under d (count_trailing_zeros k (n / 2))
    go zero e f more = let r = more (omega (arith, div-add-mod' n 2)) in omega arith
    go (suc d) e f more = absurd (omega (arith, div-add-mod' n 2))

pub power_divides : (t k : ℕ) (n : ℤ) → Multiple (2 ^ min t (count_trailing_zeros k (nat_abs n))) n
power_divides t k n =
    let j = min t (count_trailing_zeros k (nat_abs n)) in
    let r = trailing_divides k (nat_abs n) j (omega arith) in
    multiple_in (2 ^ j) n (ap (λ i. i % 2 ^ j) r.1 ∙ mul-mod_left r.0 (2 ^ j))

pub greatest_power : (t k : ℕ) (n : ℤ) (r : ℕ) → t ≤ k → r ≡ min t (count_trailing_zeros k (nat_abs n)) → GreatestPower t n r
greatest_power t k n r h e = rw e record {
  most = omega arith;
  divides = power_divides t k n;
  greatest = λ j l m.
      let z = multiple_out (2 ^ j) n m in
      let g = trailing_greatest k (nat_abs n) j (nat_abs n / 2 ^ j) (omega arith) (omega (arith, div-add-mod' (nat_abs n) (2 ^ j))) in
      omega arith;
}
