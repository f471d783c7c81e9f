-- The plain answer of each operation is the hull of its results: they lie between its ends, which are results.
use Rattle.std.specs.Prelude.{◌≡◌, ℕ, ◌^◌, min, ℤ, pos, ◌+ℤ◌, ◌-ℤ◌, ◌*ℤ◌, ◌≤ℤ◌}
use Rattle.std.proofs.Common.{arith}
use Rattle.std.proofs.lemmas.Int.{ints, clamps, by_lt_z}
use Rattle.std.proofs.lemmas.Nat.{pow_pos}
use Rattle.std.specs.Int.{int_min}
use Rattle.whole.specs.Laws.{Amid}
use Rattle.whole.proofs.Corners.{pick_max, pick_least4, pick_greatest4}
use Rattle.whole.proofs.Products.{is_le, not_le, amid_mul4, amid_square, shift_mono}
use Rattle.boxes.specs.Boxes.{Ends}
use Rattle.ranges.specs.Bounds.{Inside}
use Rattle.ranges.specs.Hulls.{ends_add, ends_sub, ends_mul, ends_sqr, ends_min, ends_shr, low_square, square, shifted}

-- ends are the same where both are
pub ends_at : (l h l' h' : ℤ) → l ≡ l' → h ≡ h' → ◌≡◌ {A = Ends} (record { lo = l; hi = h }) (record { lo = l'; hi = h' })
ends_at l h l' h' e f = cc

abbrev pub On : Ends → ℤ → Type 0
On e x = Amid e.lo x e.hi

-- what is so of every f of numbers between the operands' ends is so of both ends of the answer,
-- and every such f lies between the answer's ends
pub record Hull1 (f : ℤ → ℤ) (e : Ends → Ends) : Type 1 where
  pub all : (a : Ends) (x : ℤ) → On a x → On (e a) (f x)
  pub low : (a : Ends) → a.lo ≤ℤ a.hi → (P : ℤ → Type 0) → ((x : ℤ) → On a x → P (f x)) → P (e a).lo
  pub high : (a : Ends) → a.lo ≤ℤ a.hi → (P : ℤ → Type 0) → ((x : ℤ) → On a x → P (f x)) → P (e a).hi

pub record Hull2 (f : ℤ → ℤ → ℤ) (e : Ends → Ends → Ends) : Type 1 where
  pub all : (a b : Ends) (x y : ℤ) → On a x → On b y → On (e a b) (f x y)
  pub low : (a b : Ends) → a.lo ≤ℤ a.hi → b.lo ≤ℤ b.hi → (P : ℤ → Type 0) → ((x y : ℤ) → On a x → On b y → P (f x y)) → P (e a b).lo
  pub high : (a b : Ends) → a.lo ≤ℤ a.hi → b.lo ≤ℤ b.hi → (P : ℤ → Type 0) → ((x y : ℤ) → On a x → On b y → P (f x y)) → P (e a b).hi

pub low_on : (a : Ends) → a.lo ≤ℤ a.hi → On a a.lo
low_on a o = record { low = omega (arith, ints); high = o }

pub high_on : (a : Ends) → a.lo ≤ℤ a.hi → On a a.hi
high_on a o = record { low = o; high = omega (arith, ints) }

pub hull_add : Hull2 ◌+ℤ◌ ends_add
hull_add = record {
  all = λ a b x y p q. record { low = omega (arith, ints); high = omega (arith, ints) };
  low = λ a b o u P g. g a.lo b.lo (low_on a o) (low_on b u);
  high = λ a b o u P g. g a.hi b.hi (high_on a o) (high_on b u);
}

pub hull_sub : Hull2 ◌-ℤ◌ ends_sub
hull_sub = record {
  all = λ a b x y p q. record { low = omega (arith, ints); high = omega (arith, ints) };
  low = λ a b o u P g. g a.lo b.hi (low_on a o) (high_on b u);
  high = λ a b o u P g. g a.hi b.lo (high_on a o) (low_on b u);
}

pub hull_mul : Hull2 ◌*ℤ◌ ends_mul
hull_mul = record {
  all = λ a b x y p q. amid_mul4 a.lo x a.hi b.lo y b.hi p q;
  low = λ a b o u P g. pick_least4 P
      (g a.lo b.lo (low_on a o) (low_on b u)) (g a.lo b.hi (low_on a o) (high_on b u))
      (g a.hi b.lo (high_on a o) (low_on b u)) (g a.hi b.hi (high_on a o) (high_on b u));
  high = λ a b o u P g. pick_greatest4 P
      (g a.lo b.lo (low_on a o) (low_on b u)) (g a.lo b.hi (low_on a o) (high_on b u))
      (g a.hi b.lo (high_on a o) (low_on b u)) (g a.hi b.hi (high_on a o) (high_on b u));
}

pub hull_min : Hull2 int_min ends_min
hull_min = record {
  all = λ a b x y p q. record { low = omega (arith, ints, clamps); high = omega (arith, ints, clamps) };
  low = λ a b o u P g. g a.lo b.lo (low_on a o) (low_on b u);
  high = λ a b o u P g. g a.hi b.hi (high_on a o) (high_on b u);
}

-- the least square is the square of some number between the ends
square_low : (a : Ends) → a.lo ≤ℤ a.hi → (P : ℤ → Type 0) → ((x : ℤ) → On a x → P (square x)) → P (low_square a.lo a.hi)
square_low a o P g =
    let l = a.lo in
    let h = a.hi in
    by_lt_z l (pos 0)
    (λ n. by_lt_z (pos 0) h
    (λ m. rw (not_le (pos 0) l n, not_le h (pos 0) m) (g (pos 0) (record { low = omega (arith, ints); high = omega (arith, ints) })))
    (λ m. rw (not_le (pos 0) l n, is_le h (pos 0) m) (g h (high_on a o))))
    (λ n. rw (is_le (pos 0) l n) (g l (low_on a o)))

pub hull_sqr : Hull1 square ends_sqr
hull_sqr = record {
  all = λ a x p. amid_square a.lo x a.hi p;
  low = square_low;
  high = λ a o P g. pick_max P (g a.lo (low_on a o)) (g a.hi (high_on a o));
}

pub hull_shr : (b : ℕ) → Hull1 (shifted b) (ends_shr b)
hull_shr b = let m = 2 ^ min b 30 in let z = pow_pos (min b 30) in record {
  all = λ a x p. record { low = shift_mono m z a.lo x p.low; high = shift_mono m z x a.hi p.high };
  low = λ a o P g. g a.lo (low_on a o);
  high = λ a o P g. g a.hi (high_on a o);
}

-- a number between ends lies between any ends around them
pub wider : (a b : Ends) (x : ℤ) → Inside a b → On a x → On b x
wider a b x i p = record { low = omega (arith, ints); high = omega (arith, ints) }

-- answers for ends within others lie within the answers for those
pub nested1 : (f : ℤ → ℤ) (e : Ends → Ends) → Hull1 f e → (a b : Ends) → a.lo ≤ℤ a.hi → Inside a b → Inside (e a) (e b)
nested1 f e t a b o i = record {
  low = (t.low a o (On (e b)) (λ x p. t.all b x (wider a b x i p))).low;
  high = (t.high a o (On (e b)) (λ x p. t.all b x (wider a b x i p))).high;
}

pub nested2 : (f : ℤ → ℤ → ℤ) (e : Ends → Ends → Ends) → Hull2 f e → (a b a' b' : Ends) → a.lo ≤ℤ a.hi → a'.lo ≤ℤ a'.hi → Inside a b → Inside a' b' → Inside (e a a') (e b b')
nested2 f e t a b a' b' o o' i i' = record {
  low = (t.low a a' o o' (On (e b b')) (λ x y p q. t.all b b' x y (wider a b x i p) (wider a' b' y i' q))).low;
  high = (t.high a a' o o' (On (e b b')) (λ x y p q. t.all b b' x y (wider a b x i p) (wider a' b' y i' q))).high;
}
