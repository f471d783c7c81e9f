-- Two laws of the plain kind: its answers are the least, and they grow with their operands.
use Rattle.std.specs.Prelude.{◌≡◌, ℕ, ℤ, ◌+ℤ◌, ◌-ℤ◌, ◌*ℤ◌, Some, None, Option}
use Rattle.std.specs.Int.{int_min}
use Rattle.ranges.specs.declared.row.Row.{Row}
use Rattle.ranges.specs.Bounds.{Inside}
use Rattle.ranges.specs.Hulls.{square, shifted}
use Rattle.ranges.specs.Kind.{Valid, Holds, OfOne, OfTwo, ends}
use Rattle.ranges.specs.Plains.{plain_kind}

-- the plain range of the row holds every number with the property P
pub record Covers (P : ℤ → Type 0) (r : Row) : Type 0 where
  pub valid : Valid plain_kind r
  pub all : (z : ℤ) → P z → Holds plain_kind r z

-- the answer is the least plain range that holds every result; there is none exactly where no plain range does
abbrev pub Least : (ℤ → Type 0) → Option Row → Type 0
Least P None = (d : Row) → Covers P d → ⊥
Least P (Some c) = Covers P c × ((d : Row) → Covers P d → Inside (ends c) (ends d))

-- op answers the least for f of one operand
abbrev pub LeastOne : (ℤ → ℤ) → (Row → Option Row) → Type 0
LeastOne f op = (a : Row) → Valid plain_kind a → Least (OfOne plain_kind f a) (op a)

-- op answers the least for f of two operands
abbrev pub LeastTwo : (ℤ → ℤ → ℤ) → (Row → Row → Option Row) → Type 0
LeastTwo f op = (a b : Row) → Valid plain_kind a → Valid plain_kind b → Least (OfTwo plain_kind f a b) (op a b)

-- every answer of the plain kind is the least
pub record LeastAnswers : Type 0 where
  pub constants : (c : ℤ) → Least (λ z. z ≡ c) (plain_kind.constant c)
  pub sums : LeastTwo ◌+ℤ◌ plain_kind.add
  pub differences : LeastTwo ◌-ℤ◌ plain_kind.sub
  pub products : LeastTwo ◌*ℤ◌ plain_kind.mul
  pub squares : LeastOne square plain_kind.sqr
  pub minima : LeastTwo int_min plain_kind.least
  pub shifts : (b : ℕ) → LeastOne (shifted b) (plain_kind.shift b)

-- where the second answer is within the bound, the first is too, and its ends lie within the second's
abbrev pub Grows : Option Row → Option Row → Type 0
Grows o None = Unit {0}
Grows o (Some d) = (c : Row) × (o ≡ Some c) × Inside (ends c) (ends d)

-- the first range lies within the second
pub record Within (a b : Row) : Type 0 where
  pub small : Valid plain_kind a
  pub large : Valid plain_kind b
  pub inside : Inside (ends a) (ends b)

-- op grows with its operand
abbrev pub GrowsOne : (Row → Option Row) → Type 0
GrowsOne op = (a b : Row) → Within a b → Grows (op a) (op b)

-- op grows with its two operands
abbrev pub GrowsTwo : (Row → Row → Option Row) → Type 0
GrowsTwo op = (a b a' b' : Row) → Within a b → Within a' b' → Grows (op a a') (op b b')

-- every answer of the plain kind grows with its operands
pub record GrowingAnswers : Type 0 where
  pub sums : GrowsTwo plain_kind.add
  pub differences : GrowsTwo plain_kind.sub
  pub products : GrowsTwo plain_kind.mul
  pub squares : GrowsOne plain_kind.sqr
  pub minima : GrowsTwo plain_kind.least
  pub shifts : (b : ℕ) → GrowsOne (plain_kind.shift b)
