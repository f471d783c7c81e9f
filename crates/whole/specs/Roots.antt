-- Roots of whole numbers.
use Rattle.std.specs.Prelude.{ℕ, zero, suc, ◌*◌, cond, ℤ, pos, negsuc, nat_le}

-- r, or one more where the square of that is still at most n
unfoldable pub grown : ℕ → ℕ → ℕ
grown n r = cond (nat_le (suc r * suc r) n) (suc r) r

-- the greatest number whose square is at most n, counted up from 0
unfoldable pub root_of : ℕ → ℕ
root_of zero = zero
root_of (suc n) = grown (suc n) (root_of n)

-- the greatest number whose square is at most n; -1 where there is none
unfoldable pub root_down : ℤ → ℤ
root_down (pos n) = pos (root_of n)
root_down (negsuc n) = negsuc zero

-- the least number from 0 whose square is at least n
unfoldable pub root_up : ℤ → ℤ
root_up (pos zero) = pos zero
root_up (pos (suc n)) = pos (suc (root_of n))
root_up (negsuc n) = pos zero
