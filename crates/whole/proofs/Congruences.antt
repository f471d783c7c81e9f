-- Numbers that differ by multiples of a number (the field's congruences), and how each operation keeps them so.
use Rattle.std.proofs.Common.{◌≡◌, ℕ, ◌+◌, ◌-◌, ◌*◌, ◌^◌, ◌<◌, ◌≤◌, ℤ, pos, ◌+ℤ◌, ◌-ℤ◌, ◌*ℤ◌, neg_ℤ, ◌≤ℤ◌, sym, ap, ◌∙◌, subst, ⊎_elim, arith}
use lib.Signed.{shr_z}
use Rattle.std.proofs.Math.IntN.{*ℤ_comm}
use Rattle.std.proofs.lemmas.Int.{ints}
use Rattle.std.proofs.lemmas.Nat.{pow_pos, pow-add}
use Rattle.std.proofs.lemmas.Bool.{cases_lt}
use Rattle.std.specs.Int.{int_min}
use Rattle.whole.specs.Laws.{Multiple}
use Rattle.whole.proofs.Corners.{pick_min}
use Rattle.whole.proofs.Products.{mul_add, mul_assoc, mul_up}
use Rattle.whole.proofs.Multiples.{neg_mul, multiple_add, multiple_sub, multiple_at, multiple_mul, multiple_pow}
use Rattle.whole.proofs.Shifts.{shr_add}
use Rattle.whole.proofs.Quotients.{at_most_in}

pub multiple_none : {m : ℕ} (z : ℤ) → z ≡ pos 0 → Multiple m z
multiple_none z e = record { times = pos 0; is = omega (arith, ints) }

-- every number is a multiple of 2^0
pub multiple_one : (t : ℕ) (z : ℤ) → t ≡ 0 → Multiple (2 ^ t) z
multiple_one t z e = record { times = z; is = rw e (omega (arith, ints)) }

-- what differs from w by multiples differs by a multiple
pub multiple_between : {m : ℕ} (u v w : ℤ) → Multiple m (u -ℤ w) → Multiple m (v -ℤ w) → Multiple m (u -ℤ v)
multiple_between u v w p q = multiple_at (u -ℤ v) ((u -ℤ w) -ℤ (v -ℤ w)) (omega (arith, ints)) (multiple_sub (u -ℤ w) (v -ℤ w) p q)

pub multiple_through : {m : ℕ} (u v w : ℤ) → Multiple m (u -ℤ v) → Multiple m (v -ℤ w) → Multiple m (u -ℤ w)
multiple_through u v w p q = multiple_at (u -ℤ w) ((u -ℤ v) +ℤ (v -ℤ w)) (omega (arith, ints)) (multiple_add (u -ℤ v) (v -ℤ w) p q)

pub multiple_back : {m : ℕ} (u v : ℤ) → Multiple m (u -ℤ v) → Multiple m (v -ℤ u)
multiple_back u v p = multiple_between v u v (multiple_none (v -ℤ v) (omega (arith, ints))) p

pub sum_apart : {m : ℕ} (x a y b : ℤ) → Multiple m (x -ℤ a) → Multiple m (y -ℤ b) → Multiple m ((x +ℤ y) -ℤ (a +ℤ b))
sum_apart x a y b p q = multiple_at _ ((x -ℤ a) +ℤ (y -ℤ b)) (omega (arith, ints)) (multiple_add (x -ℤ a) (y -ℤ b) p q)

pub difference_apart : {m : ℕ} (x a y b : ℤ) → Multiple m (x -ℤ a) → Multiple m (y -ℤ b) → Multiple m ((x -ℤ y) -ℤ (a -ℤ b))
difference_apart x a y b p q = multiple_at _ ((x -ℤ a) -ℤ (y -ℤ b)) (omega (arith, ints)) (multiple_sub (x -ℤ a) (y -ℤ b) p q)

pub lesser_apart : {m : ℕ} (x a y b : ℤ) → Multiple m (x -ℤ a) → Multiple m (y -ℤ b) → Multiple m (a -ℤ b) → Multiple m (int_min x y -ℤ int_min a b)
lesser_apart {m} x a y b p q d =
    multiple_between (int_min x y) (int_min a b) b
    (pick_min (λ z. Multiple m (z -ℤ b)) (multiple_through x a b p d) q)
    (pick_min (λ z. Multiple m (z -ℤ b)) d (multiple_none (b -ℤ b) (omega (arith, ints))))

mul_sub : (x y z : ℤ) → (x -ℤ y) *ℤ z ≡ (x *ℤ z) -ℤ (y *ℤ z)
mul_sub x y z = mul_add x (neg_ℤ y) z ∙ ap (λ w. x *ℤ z +ℤ w) (sym (neg_mul y z))

linear : (A B C D E F G : ℤ) → A ≡ D -ℤ C → B ≡ E -ℤ F → D ≡ G -ℤ E → G -ℤ F ≡ A +ℤ (B +ℤ C)
linear A B C D E F G p q r = omega (arith, ints)

product_split : (x a y b : ℤ) → (x *ℤ y) -ℤ (a *ℤ b) ≡ ((x -ℤ a) *ℤ (y -ℤ b)) +ℤ (((x -ℤ a) *ℤ b) +ℤ (a *ℤ (y -ℤ b)))
product_split x a y b =
    let d : x *ℤ (y -ℤ b) ≡ (x *ℤ y) -ℤ (x *ℤ b) = rw (*ℤ_comm x (y -ℤ b), *ℤ_comm x y, *ℤ_comm x b) (mul_sub y b x) in
    linear ((x -ℤ a) *ℤ (y -ℤ b)) ((x -ℤ a) *ℤ b) (a *ℤ (y -ℤ b)) (x *ℤ (y -ℤ b)) (x *ℤ b) (a *ℤ b) (x *ℤ y) (mul_sub x a (y -ℤ b)) (mul_sub x a b) d

-- powers of 2 in two factors add up in the product
product_pow : (s i j : ℕ) (x y : ℤ) → s ≤ i + j → Multiple (2 ^ i) x → Multiple (2 ^ j) y → Multiple (2 ^ s) (x *ℤ y)
product_pow s i j x y h p q = multiple_pow s (i + j) (x *ℤ y) h (subst (λ m. Multiple m (x *ℤ y)) (sym (pow-add 2 i j)) (multiple_mul x y p q))

pub product_apart : (s i j k l : ℕ) (x a y b : ℤ) → s ≤ i + j → s ≤ i + l → s ≤ k + j →
    Multiple (2 ^ i) (x -ℤ a) → Multiple (2 ^ j) (y -ℤ b) → Multiple (2 ^ k) a → Multiple (2 ^ l) b → Multiple (2 ^ s) ((x *ℤ y) -ℤ (a *ℤ b))
product_apart s i j k l x a y b f g h p q u v =
    multiple_at _ _ (product_split x a y b)
    (multiple_add _ _ (product_pow s i j (x -ℤ a) (y -ℤ b) f p q)
    (multiple_add _ _ (product_pow s i l (x -ℤ a) b g p v) (product_pow s k j a (y -ℤ b) h u q)))

split_pow : (t c : ℕ) (q : ℤ) → c ≤ t → q *ℤ pos (2 ^ t) ≡ (q *ℤ pos (2 ^ (t - c))) *ℤ pos (2 ^ c)
split_pow t c q h =
    let e : 2 ^ t ≡ 2 ^ (t - c) * 2 ^ c = ap (λ n. 2 ^ n) (omega arith) ∙ pow-add 2 (t - c) c in
    ap (λ n. q *ℤ pos n) e ∙ sym (mul_assoc q (pos (2 ^ (t - c))) (pos (2 ^ c)))

joined : (x a z : ℤ) → x -ℤ a ≡ z → x ≡ a +ℤ z
joined x a z e = omega (arith, ints)

pub cancelled : (u v : ℤ) → (u +ℤ v) -ℤ u ≡ v
cancelled u v = omega (arith, ints)

-- a shift by c takes c off the power, which stays at least 0
pub shift_apart : (t c : ℕ) (x a : ℤ) → Multiple (2 ^ t) (x -ℤ a) → Multiple (2 ^ (t - c)) (shr_z x (2 ^ c) -ℤ shr_z a (2 ^ c))
shift_apart t c x a m = ⊎_elim
    (λ (lt : t < c). multiple_one (t - c) _ (omega arith))
    (λ (ge : c ≤ t).
    let q = m.times *ℤ pos (2 ^ (t - c)) in
    let e : x ≡ a +ℤ (q *ℤ pos (2 ^ c)) = joined x a _ (m.is ∙ split_pow t c m.times ge) in
    let f : shr_z x (2 ^ c) ≡ shr_z a (2 ^ c) +ℤ q = ap (λ z. shr_z z (2 ^ c)) e ∙ shr_add (2 ^ c) (pow_pos c) a q in
    record { times = m.times; is = ap (λ z. z -ℤ shr_z a (2 ^ c)) f ∙ cancelled (shr_z a (2 ^ c)) q })
    (cases_lt t c)

-- a floor's multiple is the greatest multiple that is at most the number
pub floor_greatest : (m : ℕ) → 0 < m → (z v : ℤ) → Multiple m v → v ≤ℤ z → v ≤ℤ (shr_z z m *ℤ pos m)
floor_greatest m p z v d h =
    let q = at_most_in z d.times m p (subst (λ w. w ≤ℤ z) d.is h) in
    subst (λ w. w ≤ℤ (shr_z z m *ℤ pos m)) (sym d.is) (mul_up d.times (shr_z z m) (pos m) q (omega (arith, ints)))
