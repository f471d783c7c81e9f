-- What the least of four, a rounded quotient, a root and a power of 2 in a number are, in words that do not say how to find them.
use Rattle.std.specs.Prelude.{◌≡◌, ℕ, ◌^◌, ◌≤◌, ◌⊎◌, ℤ, pos, ◌*ℤ◌, ◌≤ℤ◌, ◌<ℤ◌}

-- r is one of the four
abbrev pub OneOf : (a b c d r : ℤ) → Type 0
OneOf a b c d r = ((r ≡ a) ⊎ (r ≡ b)) ⊎ ((r ≡ c) ⊎ (r ≡ d))

-- r is the least of the four
pub record LeastOf (a b c d r : ℤ) : Type 0 where
  pub one : OneOf a b c d r
  pub first : r ≤ℤ a
  pub second : r ≤ℤ b
  pub third : r ≤ℤ c
  pub fourth : r ≤ℤ d

-- r is the greatest of the four
pub record GreatestOf (a b c d r : ℤ) : Type 0 where
  pub one : OneOf a b c d r
  pub first : a ≤ℤ r
  pub second : b ≤ℤ r
  pub third : c ≤ℤ r
  pub fourth : d ≤ℤ r

-- z is from l to h
pub record Amid (l z h : ℤ) : Type 0 where
  pub low : l ≤ℤ z
  pub high : z ≤ℤ h

-- q is at most n / d, for a d that is not 0
pub record AtMost (q n d : ℤ) : Type 0 where
  pub up : pos 0 <ℤ d → (q *ℤ d) ≤ℤ n
  pub down : d <ℤ pos 0 → n ≤ℤ (q *ℤ d)

-- q is at least n / d, for a d that is not 0
pub record AtLeast (q n d : ℤ) : Type 0 where
  pub up : pos 0 <ℤ d → n ≤ℤ (q *ℤ d)
  pub down : d <ℤ pos 0 → (q *ℤ d) ≤ℤ n

-- r is n / d rounded down: the greatest number that is at most n / d
pub record RoundedDown (n d r : ℤ) : Type 0 where
  pub low : AtMost r n d
  pub greatest : (q : ℤ) → AtMost q n d → q ≤ℤ r

-- r is n / d rounded up: the least number that is at least n / d
pub record RoundedUp (n d r : ℤ) : Type 0 where
  pub high : AtLeast r n d
  pub least : (q : ℤ) → AtLeast q n d → r ≤ℤ q

-- r is the greatest number whose square is at most n
pub record GreatestRoot (n r : ℤ) : Type 0 where
  pub square : (r *ℤ r) ≤ℤ n
  pub greatest : (x : ℤ) → (x *ℤ x) ≤ℤ n → x ≤ℤ r

-- r is the least number from 0 whose square is at least n
pub record LeastRoot (n r : ℤ) : Type 0 where
  pub from : pos 0 ≤ℤ r
  pub square : n ≤ℤ (r *ℤ r)
  pub least : (x : ℤ) → pos 0 ≤ℤ x → n ≤ℤ (x *ℤ x) → r ≤ℤ x

-- z is a whole number of times m: m divides z
pub record Multiple (m : ℕ) (z : ℤ) : Type 0 where
  pub times : ℤ
  pub is : z ≡ times *ℤ pos m

-- k is the greatest number up to t such that 2^k divides n
pub record GreatestPower (t : ℕ) (n : ℤ) (k : ℕ) : Type 0 where
  pub most : k ≤ t
  pub divides : Multiple (2 ^ k) n
  pub greatest : (j : ℕ) → j ≤ t → Multiple (2 ^ j) n → j ≤ k
