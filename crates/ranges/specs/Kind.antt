-- The meaning of a kind of range, over plain rows, and the rules that every kind keeps.
-- A kind is a record in Type 0, so that a statement may speak of every kind.
use Rattle.std.specs.Prelude.{◌≡◌, ℕ, Bool, true, ℤ, ◌+ℤ◌, ◌-ℤ◌, ◌*ℤ◌, ◌≤ℤ◌, Some, None, Option}
use Rattle.std.specs.Int.{int_min}
use Rattle.boxes.specs.Boxes.{Ends}
use Rattle.ranges.specs.declared.row.Row.{Row}
use Rattle.ranges.specs.Bounds.{Bounded, Ordered, Inside, point}
use Rattle.ranges.specs.Hulls.{ends_add, ends_sub, ends_mul, ends_sqr, ends_min, ends_shr, square, shifted}

-- what a kind of range is: its rows, the numbers that a row holds, and its answers
pub record Kind : Type 0 where
  -- the row is the row of a range of this kind
  pub valid : Row → Bool
  -- the range of the row holds the number
  pub holds : Row → ℤ → Bool
  -- all numbers from one to another
  pub side : ℤ → ℤ → Row
  -- each operation answers a row, or None where the answer is too large
  pub constant : ℤ → Option Row
  pub add : Row → Row → Option Row
  pub sub : Row → Row → Option Row
  pub mul : Row → Row → Option Row
  pub sqr : Row → Option Row
  pub least : Row → Row → Option Row
  pub shift : ℕ → Row → Option Row
  -- every held number is from one to another; none is
  pub within : Row → ℤ → ℤ → Bool
  pub apart : Row → ℤ → ℤ → Bool
  -- the row that any row is taken as
  pub fixed : Row → Row

-- the row is the row of a range of the kind
abbrev pub Valid : Kind → Row → Type 0
Valid k r = k.valid r ≡ true

-- the range of the row holds the number
abbrev pub Holds : Kind → Row → ℤ → Type 0
Holds k r x = k.holds r x ≡ true

-- the ends that a row shows
abbrev pub ends : Row → Ends
ends r = record { lo = r.low; hi = r.high }

-- the answer c: a range whose ends lie within the plain answer e, which is within the bound, and that holds every result
pub record Answered (k : Kind) (e : Ends) (Result : ℤ → Type 0) (c : Row) : Type 0 where
  pub valid : Valid k c
  pub inside : Inside (ends c) e
  pub bounded : Bounded e
  pub holds : (z : ℤ) → Result z → Holds k c z

-- too large exactly where the plain answer leaves the bound
abbrev pub Answer : Kind → Ends → (ℤ → Type 0) → Option Row → Type 0
Answer k e R None = Bounded e → ⊥
Answer k e R (Some c) = Answered k e R c

-- z is f of a number that a holds
pub record OfOne (k : Kind) (f : ℤ → ℤ) (a : Row) (z : ℤ) : Type 0 where
  pub x : ℤ
  pub in_a : Holds k a x
  pub is : z ≡ f x

-- z is f of a number that a holds and one that b holds
pub record OfTwo (k : Kind) (f : ℤ → ℤ → ℤ) (a b : Row) (z : ℤ) : Type 0 where
  pub x : ℤ
  pub y : ℤ
  pub in_a : Holds k a x
  pub in_b : Holds k b y
  pub is : z ≡ f x y

-- op answers for f of one operand
abbrev pub One : Kind → (ℤ → ℤ) → (Ends → Ends) → (Row → Option Row) → Type 0
One k f e op = (a : Row) → Valid k a → Answer k (e (ends a)) (OfOne k f a) (op a)

-- op answers for f of two operands
abbrev pub Two : Kind → (ℤ → ℤ → ℤ) → (Ends → Ends → Ends) → (Row → Row → Option Row) → Type 0
Two k f e op = (a b : Row) → Valid k a → Valid k b → Answer k (e (ends a) (ends b)) (OfTwo k f a b) (op a b)

-- the range of all whole numbers between the ends, with exactly those ends
pub record Spans (k : Kind) (e : Ends) (r : Row) : Type 0 where
  pub valid : Valid k r
  pub same : ends r ≡ e
  pub holds : (x : ℤ) → e.lo ≤ℤ x → x ≤ℤ e.hi → Holds k r x

-- a constant's range, unless the constant is beyond the bound
abbrev pub Constant : Kind → ℤ → Option Row → Type 0
Constant k c None = Bounded (point c) → ⊥
Constant k c (Some r) = Bounded (point c) × Spans k (point c) r

-- b is true exactly where P holds
abbrev pub Tells : Bool → Type 0 → Type 0
Tells b P = (b ≡ true → P) × (P → b ≡ true)

-- the rules of ranges
pub record Lawful (k : Kind) : Type 0 where
  -- a range's ends are its lowest and its highest held number, so it holds at least one
  pub first : (r : Row) → Valid k r → Holds k r r.low
  pub last : (r : Row) → Valid k r → Holds k r r.high
  pub between : (r : Row) (x : ℤ) → Valid k r → Holds k r x → (r.low ≤ℤ x) × (x ≤ℤ r.high)
  pub bounded : (r : Row) → Valid k r → Bounded (ends r)
  pub sides : (l h : ℤ) → Ordered (record { lo = l; hi = h }) → Spans k (record { lo = l; hi = h }) (k.side l h)
  pub constants : (c : ℤ) → Constant k c (k.constant c)
  pub sums : Two k ◌+ℤ◌ ends_add k.add
  pub differences : Two k ◌-ℤ◌ ends_sub k.sub
  pub products : Two k ◌*ℤ◌ ends_mul k.mul
  pub squares : One k square ends_sqr k.sqr
  pub minima : Two k int_min ends_min k.least
  pub shifts : (b : ℕ) → One k (shifted b) (ends_shr b) (k.shift b)
  pub withins : (r : Row) (l h : ℤ) → Valid k r → Tells (k.within r l h) ((x : ℤ) → Holds k r x → (l ≤ℤ x) × (x ≤ℤ h))
  pub aparts : (r : Row) (l h : ℤ) → Valid k r → Tells (k.apart r l h) ((x : ℤ) → Holds k r x → l ≤ℤ x → x ≤ℤ h → ⊥)
  -- a range's row gives it back, and any other row some range
  pub fixes : (r : Row) → Valid k (k.fixed r)
  pub back : (r : Row) → Valid k r → k.fixed r ≡ r

-- what a narrowing range can do besides
pub record Keeper : Type 0 where
  pub kept : Row → ℤ → ℤ → Option Row

-- c holds exactly the numbers from x to y that a holds
pub record Exactly (k : Kind) (a : Row) (x y : ℤ) (c : Row) : Type 0 where
  pub valid : Valid k c
  pub only : (v : ℤ) → Holds k c v → Holds k a v × (x ≤ℤ v) × (v ≤ℤ y)
  pub all : (v : ℤ) → Holds k a v → x ≤ℤ v → v ≤ℤ y → Holds k c v

-- what is kept, absent exactly where there is nothing to keep
abbrev pub Kept : Kind → Row → ℤ → ℤ → Option Row → Type 0
Kept k a x y None = (v : ℤ) → Holds k a v → x ≤ℤ v → v ≤ℤ y → ⊥
Kept k a x y (Some c) = Exactly k a x y c

-- the rule of narrowing ranges
abbrev pub Keeping : Kind → Keeper → Type 0
Keeping k n = (a : Row) (x y : ℤ) → Valid k a → Kept k a x y (n.kept a x y)

-- the row of a result
abbrev pub rowed : {S : Type 0} → (S → Row) → Option S → Option Row
rowed f None = None
rowed f (Some x) = Some (f x)
