-- What the inverse rules promise: no operand is lost. The ends hold the inverse image of the result's ends.
use Rattle.std.specs.Prelude.{ℤ, Some, None, Option}
use Rattle.whole.specs.Laws.{Amid}
use Rattle.boxes.specs.Boxes.{Ends}

-- x lies between the ends
abbrev pub Lies : Ends → ℤ → Type 0
Lies e x = Amid e.lo x e.hi

-- every x that f takes to between the ends z lies between the ends r
abbrev pub InverseOne : (ℤ → ℤ) → (z r : Ends) → Type 0
InverseOne f z r = (x : ℤ) → Lies z (f x) → Lies r x

-- so does every such x that lies between the ends a
abbrev pub InverseOneOf : (ℤ → ℤ) → (z a r : Ends) → Type 0
InverseOneOf f z a r = (x : ℤ) → Lies a x → Lies z (f x) → Lies r x

-- every x that op, with some y between the ends b, takes to between the ends z lies between the ends r
abbrev pub InverseTwo : (ℤ → ℤ → ℤ) → (z b r : Ends) → Type 0
InverseTwo op z b r = (y : ℤ) → Lies b y → InverseOne (λ x. op x y) z r

-- so does every such x that lies between the ends a
abbrev pub InverseTwoOf : (ℤ → ℤ → ℤ) → (z a b r : Ends) → Type 0
InverseTwoOf op z a b r = (y : ℤ) → Lies b y → InverseOneOf (λ x. op x y) z a r

-- the operation with its operands the other way round
abbrev pub turned : (ℤ → ℤ → ℤ) → ℤ → ℤ → ℤ
turned op x y = op y x

-- the same of the first operand and of the second
pub record InverseBoth (op : ℤ → ℤ → ℤ) (z b r : Ends) : Type 0 where
  pub first : InverseTwo op z b r
  pub second : InverseTwo (turned op) z b r

-- the same of either operand, between the ends a, by the other, between the ends b
pub record InverseBothOf (op : ℤ → ℤ → ℤ) (z a b r : Ends) : Type 0 where
  pub first : InverseTwoOf op z a b r
  pub second : InverseTwoOf (turned op) z a b r

-- P of the ends, where any are known
abbrev pub Known : (Ends → Type 0) → Option Ends → Type 0
Known P None = Unit {0}
Known P (Some r) = P r
