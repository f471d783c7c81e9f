-- Laws of the raster kind: which numbers a range holds, and where the operations take them.
use Rattle.std.specs.Prelude.{◌≡◌, ℕ, ◌*◌, ◌^◌, ℤ, pos, ◌+ℤ◌, ◌-ℤ◌, ◌*ℤ◌, ◌≤ℤ◌, Some, None, Option}
use Rattle.std.specs.Int.{int_min}
use Rattle.ranges.specs.declared.row.Row.{Row}
use Rattle.ranges.specs.Hulls.{square, shifted}
use Rattle.ranges.specs.Kind.{Tells, Valid}
use Rattle.raster.specs.Rasters.{raster_kind}

-- x is low plus a whole number of steps of 2^t, and at most high
pub record Stepped (r : Row) (x : ℤ) : Type 0 where
  pub steps : ℕ
  pub is : x ≡ r.low +ℤ pos (steps * 2 ^ r.step)
  pub most : x ≤ℤ r.high

-- a raster range holds exactly low, low + 2^t, .. up to high
abbrev pub HeldSteps : Type 0
HeldSteps = (r : Row) (x : ℤ) → Valid raster_kind r → Tells (raster_kind.holds r x) (Stepped r x)

-- z is a whole step of the answer, if there is one
abbrev pub SteppedIn : Option Row → ℤ → Type 0
SteppedIn None z = Unit {0}
SteppedIn (Some c) z = Stepped c z

-- op takes whole steps of one operand to whole steps of its answer, by f
abbrev pub SteppedOne : (ℤ → ℤ) → (Row → Option Row) → Type 0
SteppedOne f op = (a : Row) (x : ℤ) → Valid raster_kind a → Stepped a x → SteppedIn (op a) (f x)

-- op takes whole steps of two operands to whole steps of its answer, by f
abbrev pub SteppedTwo : (ℤ → ℤ → ℤ) → (Row → Row → Option Row) → Type 0
SteppedTwo f op = (a b : Row) (x y : ℤ) → Valid raster_kind a → Valid raster_kind b → Stepped a x → Stepped b y → SteppedIn (op a b) (f x y)

-- every operation takes whole steps to whole steps
pub record SteppedAnswers : Type 0 where
  pub sums : SteppedTwo ◌+ℤ◌ raster_kind.add
  pub differences : SteppedTwo ◌-ℤ◌ raster_kind.sub
  pub products : SteppedTwo ◌*ℤ◌ raster_kind.mul
  pub squares : SteppedOne square raster_kind.sqr
  pub minima : SteppedTwo int_min raster_kind.least
  pub shifts : (b : ℕ) → SteppedOne (shifted b) (raster_kind.shift b)
