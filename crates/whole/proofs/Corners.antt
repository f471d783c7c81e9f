-- The least and the greatest of four: one of them, and a bound of each.
use Rattle.std.proofs.Common.{◌≡◌, Bool, true, false, cond, ◌⊎◌, ℤ, inl, inr, ⊎_elim, arith}
use lib.Signed.{lt_z}
use Rattle.std.specs.Int.{int_max, int_min}
use Rattle.std.proofs.lemmas.Int.{ints, clamps}
use Rattle.std.proofs.lemmas.Bool.{cases_cond}
use Rattle.whole.specs.Corners.{least4, greatest4}
use Rattle.whole.specs.Laws.{LeastOf, GreatestOf}

pick : (b : Bool) {x y : ℤ} (P : ℤ → Type 0) → P x → P y → P (cond b x y)
pick true P p q = p
pick false P p q = q

-- what is so of both is so of the lesser and of the greater
pub pick_min : {x y : ℤ} (P : ℤ → Type 0) → P x → P y → P (int_min x y)
pick_min {x} {y} P p q = pick (lt_z y x) P q p

pub pick_max : {x y : ℤ} (P : ℤ → Type 0) → P x → P y → P (int_max x y)
pick_max {x} {y} P p q = pick (lt_z y x) P p q

-- what is so of all four is so of the least and of the greatest
pub pick_least4 : {a b c d : ℤ} (P : ℤ → Type 0) → P a → P b → P c → P d → P (least4 a b c d)
pick_least4 P p q r s = pick_min P (pick_min P p q) (pick_min P r s)

pub pick_greatest4 : {a b c d : ℤ} (P : ℤ → Type 0) → P a → P b → P c → P d → P (greatest4 a b c d)
pick_greatest4 P p q r s = pick_max P (pick_max P p q) (pick_max P r s)

lesser_is : (a b z : ℤ) → z ≡ int_min a b → (z ≡ a) ⊎ (z ≡ b)
lesser_is a b z e = ⊎_elim inr inl (cases_cond (lt_z b a) b a z e)

greater_is : (a b z : ℤ) → z ≡ int_max a b → (z ≡ a) ⊎ (z ≡ b)
greater_is a b z e = cases_cond (lt_z b a) a b z e

pub least_of : (a b c d r : ℤ) → r ≡ least4 a b c d → LeastOf a b c d r
least_of a b c d r e = record {
  one = ⊎_elim (λ p. inl (lesser_is a b r p)) (λ p. inr (lesser_is c d r p)) (lesser_is (int_min a b) (int_min c d) r e);
  first = omega (arith, ints, clamps);
  second = omega (arith, ints, clamps);
  third = omega (arith, ints, clamps);
  fourth = omega (arith, ints, clamps);
}

pub greatest_of : (a b c d r : ℤ) → r ≡ greatest4 a b c d → GreatestOf a b c d r
greatest_of a b c d r e = record {
  one = ⊎_elim (λ p. inl (greater_is a b r p)) (λ p. inr (greater_is c d r p)) (greater_is (int_max a b) (int_max c d) r e);
  first = omega (arith, ints, clamps);
  second = omega (arith, ints, clamps);
  third = omega (arith, ints, clamps);
  fourth = omega (arith, ints, clamps);
}
