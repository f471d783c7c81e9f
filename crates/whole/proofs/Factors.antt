-- A factor of a product that is known between two numbers: it lies between rounded quotients of the corners.
use Rattle.std.proofs.Common.{◌⊎◌, ℤ, pos, ◌*ℤ◌, ◌≤ℤ◌, ◌<ℤ◌, inl, inr, ⊎_elim, arith}
use Rattle.std.proofs.lemmas.Int.{ints, clamps, by_lt_z}
use Rattle.whole.specs.Corners.{least4, greatest4}
use Rattle.whole.specs.Laws.{Amid}
use Rattle.whole.specs.Quotients.{floor, ceiling}
use Rattle.whole.proofs.Products.{amid_mul'}
use Rattle.whole.proofs.Quotients.{floor_in, ceiling_in}

-- the four ways in which a product bounds a rounded quotient
ceiling_up : (q n d : ℤ) → pos 0 <ℤ d → n ≤ℤ (q *ℤ d) → ceiling n d ≤ℤ q
ceiling_up q n d p h = ceiling_in n d q (λ e. omega (arith, ints)) (record { up = λ _. h; down = λ k. absurd (omega (arith, ints)) })

ceiling_down : (q n d : ℤ) → d <ℤ pos 0 → (q *ℤ d) ≤ℤ n → ceiling n d ≤ℤ q
ceiling_down q n d p h = ceiling_in n d q (λ e. omega (arith, ints)) (record { up = λ k. absurd (omega (arith, ints)); down = λ _. h })

floor_up : (q n d : ℤ) → pos 0 <ℤ d → (q *ℤ d) ≤ℤ n → q ≤ℤ floor n d
floor_up q n d p h = floor_in n d q (λ e. omega (arith, ints)) (record { up = λ _. h; down = λ k. absurd (omega (arith, ints)) })

floor_down : (q n d : ℤ) → d <ℤ pos 0 → n ≤ℤ (q *ℤ d) → q ≤ℤ floor n d
floor_down q n d p h = floor_in n d q (λ e. omega (arith, ints)) (record { up = λ k. absurd (omega (arith, ints)); down = λ _. h })

-- what x times y reaches, for a y from c to d, x times c or x times d reaches too
up_to_corner : (x y z c d : ℤ) → Amid c y d → z ≤ℤ (x *ℤ y) → (z ≤ℤ (x *ℤ c)) ⊎ (z ≤ℤ (x *ℤ d))
up_to_corner x y z c d k h =
    let a = amid_mul' c y d x k in
    by_lt_z (x *ℤ c) z (λ l. inr (omega (arith, ints, clamps))) (λ l. inl l)

down_to_corner : (x y z c d : ℤ) → Amid c y d → (x *ℤ y) ≤ℤ z → ((x *ℤ c) ≤ℤ z) ⊎ ((x *ℤ d) ≤ℤ z)
down_to_corner x y z c d k h =
    let a = amid_mul' c y d x k in
    by_lt_z z (x *ℤ c) (λ l. inr (omega (arith, ints, clamps))) (λ l. inl l)

-- x times y is from a to b, for a y from c to d, all of one sign: x is from the least corner quotient, rounded up, to the greatest, rounded down
pub amid_factor : (x y a b c d : ℤ) → Amid a (x *ℤ y) b → Amid c y d → (pos 0 <ℤ c) ⊎ (d <ℤ pos 0) →
    Amid (least4 (ceiling a c) (ceiling a d) (ceiling b c) (ceiling b d)) x (greatest4 (floor a c) (floor a d) (floor b c) (floor b d))
amid_factor x y a b c d h k s = ⊎_elim
    (λ p. record {
      low = ⊎_elim
          (λ l. let q = ceiling_up x a c p l in omega (arith, ints, clamps))
          (λ l. let q = ceiling_up x a d (omega (arith, ints)) l in omega (arith, ints, clamps))
          (up_to_corner x y a c d k h.low);
      high = ⊎_elim
          (λ l. let q = floor_up x b c p l in omega (arith, ints, clamps))
          (λ l. let q = floor_up x b d (omega (arith, ints)) l in omega (arith, ints, clamps))
          (down_to_corner x y b c d k h.high);
    })
    (λ p. record {
      low = ⊎_elim
          (λ l. let q = ceiling_down x b c (omega (arith, ints)) l in omega (arith, ints, clamps))
          (λ l. let q = ceiling_down x b d p l in omega (arith, ints, clamps))
          (down_to_corner x y b c d k h.high);
      high = ⊎_elim
          (λ l. let q = floor_down x a c (omega (arith, ints)) l in omega (arith, ints, clamps))
          (λ l. let q = floor_down x a d p l in omega (arith, ints, clamps))
          (up_to_corner x y a c d k h.low);
    })
    s
