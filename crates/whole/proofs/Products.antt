-- Orders of products of whole numbers.
use Rattle.std.proofs.Common.{◌≡◌, ℕ, zero, suc, ◌*◌, ◌/◌, ◌<◌, ◌≤◌, true, false, cond, T, ℤ, pos, negsuc, ◌+ℤ◌, ◌*ℤ◌, ◌≤ℤ◌, ◌<ℤ◌, sym, ap, subst, mul-le-mul_right, div-add-mod', le-div_iff_mul-le, arith}
use lib.Signed.{le_z, lt_z, shr_z}
use Rattle.std.proofs.Math.IntN.{*ℤ_comm}
use borrow.Author.Differences.{up, down, le_out, sum_is_lem, product_is}
use Rattle.std.proofs.lemmas.Int.{ints, clamps, by_lt_z}
use Rattle.std.specs.Int.{int_max, int_min}
use Rattle.whole.specs.Laws.{Amid}
use Rattle.whole.specs.Corners.{least4, greatest4}

-- an order and its test
pub is_le : (a b : ℤ) → a ≤ℤ b → le_z a b ≡ true
is_le a b h = grind (arith, ints)

pub le_in : (a b : ℤ) → le_z a b ≡ true → a ≤ℤ b
le_in a b e = record { le = subst T (sym e) tt }

pub not_le : (a b : ℤ) → b <ℤ a → le_z a b ≡ false
not_le a b h = grind (arith, ints)

pub is_lt : (a b : ℤ) → a <ℤ b → lt_z a b ≡ true
is_lt a b h = grind (arith, ints)

pub not_lt : (a b : ℤ) → b ≤ℤ a → lt_z a b ≡ false
not_lt a b h = grind (arith, ints)

-- a factor that is not negative keeps the order
pub mul_up : (x x' y : ℤ) → x ≤ℤ x' → pos 0 ≤ℤ y → (x *ℤ y) ≤ℤ (x' *ℤ y)
mul_up x x' (pos n) h p = omega (arith, ints, mul-le-mul_right n (le_out x x' h))
mul_up x x' (negsuc n) h p = absurd (omega (arith, ints))

-- one that is not positive turns it
pub mul_down : (x x' y : ℤ) → x ≤ℤ x' → y ≤ℤ pos 0 → (x' *ℤ y) ≤ℤ (x *ℤ y)
mul_down x x' (pos zero) h p = omega (arith, ints)
mul_down x x' (pos (suc n)) h p = absurd (omega (arith, ints))
mul_down x x' (negsuc n) h p = omega (arith, ints, mul-le-mul_right (suc n) (le_out x x' h))

pub mul_add : (x y z : ℤ) → (x +ℤ y) *ℤ z ≡ x *ℤ z +ℤ y *ℤ z
mul_add x y z = omega (arith, ints, ap (λ n. n * up z) (sum_is_lem x y), ap (λ n. n * down z) (sum_is_lem x y))

pub mul_assoc : (x y z : ℤ) → (x *ℤ y) *ℤ z ≡ x *ℤ (y *ℤ z)
mul_assoc x y z =
    let p = product_is x y in
    let q = product_is y z in
    omega (arith, ints, ap (λ n. n * up z) p.0, ap (λ n. n * down z) p.0, ap (λ n. n * up z) p.1, ap (λ n. n * down z) p.1, ap (λ n. up x * n) q.0, ap (λ n. down x * n) q.0, ap (λ n. up x * n) q.1, ap (λ n. down x * n) q.1)

-- x times y, for an x from a to b, is between a times y and b times y
pub amid_mul : (a x b y : ℤ) → Amid a x b → Amid (int_min (a *ℤ y) (b *ℤ y)) (x *ℤ y) (int_max (a *ℤ y) (b *ℤ y))
amid_mul a x b y h = by_lt_z y (pos 0)
    (λ n. let p = mul_down a x y h.low (omega (arith, ints)) in let q = mul_down x b y h.high (omega (arith, ints)) in omega (arith, ints, clamps))
    (λ n. let p = mul_up a x y h.low n in let q = mul_up x b y h.high n in omega (arith, ints, clamps))

pub amid_mul' : (a x b y : ℤ) → Amid a x b → Amid (int_min (y *ℤ a) (y *ℤ b)) (y *ℤ x) (int_max (y *ℤ a) (y *ℤ b))
amid_mul' a x b y h = rw (*ℤ_comm y a, *ℤ_comm y b, *ℤ_comm y x) (amid_mul a x b y h)

amid_of : (l p h l' q h' z : ℤ) → Amid l p h → Amid l' q h' → Amid (int_min p q) z (int_max p q) → Amid (int_min l l') z (int_max h h')
amid_of l p h l' q h' z a b c = omega (arith, ints, clamps)

pub amid_mul4 : (a x b c y d : ℤ) → Amid a x b → Amid c y d →
    Amid (least4 (a *ℤ c) (a *ℤ d) (b *ℤ c) (b *ℤ d)) (x *ℤ y) (greatest4 (a *ℤ c) (a *ℤ d) (b *ℤ c) (b *ℤ d))
amid_mul4 a x b c y d h k = amid_of _ _ _ _ _ _ _ (amid_mul' c y d a k) (amid_mul' c y d b k) (amid_mul a x b y h)

pub square_up : (x y : ℤ) → pos 0 ≤ℤ x → x ≤ℤ y → (x *ℤ x) ≤ℤ (y *ℤ y)
square_up x y p h =
    let q = mul_up x y x h p in
    let r = mul_up x y y h (omega (arith, ints)) in
    let e = *ℤ_comm x y in
    omega (arith, ints)

pub square_down : (x y : ℤ) → y ≤ℤ pos 0 → x ≤ℤ y → (y *ℤ y) ≤ℤ (x *ℤ x)
square_down x y p h =
    let q = mul_down x y x h (omega (arith, ints)) in
    let r = mul_down x y y h p in
    let e = *ℤ_comm x y in
    omega (arith, ints)

pub square_pos : (x : ℤ) → pos 0 ≤ℤ (x *ℤ x)
square_pos (pos n) = omega (arith, ints)
square_pos (negsuc n) = omega (arith, ints)

-- a square of a number between a and b
pub amid_square : (a x b : ℤ) → Amid a x b →
    Amid (cond (le_z (pos 0) a) (a *ℤ a) (cond (le_z b (pos 0)) (b *ℤ b) (pos 0))) (x *ℤ x) (int_max (a *ℤ a) (b *ℤ b))
amid_square a x b h = by_lt_z a (pos 0)
    (λ n. by_lt_z (pos 0) b
    (λ m. rw (not_le (pos 0) a n, not_le b (pos 0) m) (record { low = square_pos x; high = by_lt_z x (pos 0) (λ k. let q = square_down a x (omega (arith, ints)) h.low in omega (arith, ints, clamps)) (λ k. let q = square_up x b k h.high in omega (arith, ints, clamps)) }))
    (λ m. let q = square_down a x (omega (arith, ints)) h.low in let r = square_down x b m h.high in rw (not_le (pos 0) a n, is_le b (pos 0) m) (record { low = r; high = omega (arith, ints, clamps) })))
    (λ n. let q = square_up a x n h.low in let r = square_up x b (omega (arith, ints)) h.high in rw (is_le (pos 0) a n) (record { low = q; high = omega (arith, ints, clamps) }))

pub div_mono : (m a b : ℕ) → 0 < m → a ≤ b → a / m ≤ b / m
div_mono zero a b z h = absurd (omega arith)
div_mono (suc m) a b z h = (le-div_iff_mul-le {k = suc m} (omega arith)).1 (omega (arith, div-add-mod' a (suc m)))

-- a floor shift keeps the order
pub shift_mono : (m : ℕ) → 0 < m → (x y : ℤ) → x ≤ℤ y → (shr_z x m) ≤ℤ (shr_z y m)
shift_mono m z (pos a) (pos b) h = let k = div_mono m a b z (omega (arith, ints)) in omega (arith, ints)
shift_mono m z (pos a) (negsuc b) h = absurd (omega (arith, ints))
shift_mono m z (negsuc a) (pos b) h = omega (arith, ints)
shift_mono m z (negsuc a) (negsuc b) h = let k = div_mono m b a z (omega (arith, ints)) in omega (arith, ints)
