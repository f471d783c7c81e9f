-- The worked cases.
use Rattle.std.specs.Prelude.{ℕ, List, [], ◌∷◌, ◌++◌, ℤ, pos, negsuc, Some, None, Option}
use Rattle.boxes.specs.Boxes.{Ends}
use Rattle.ranges.specs.declared.row.Row.{Row}
use Rattle.ranges.specs.Bounds.{point}
use Rattle.ranges.specs.Kind.{Kind}
use Rattle.ranges.specs.Plains.{plain_keeper, plain_kind}
use Rattle.raster.specs.Rasters.{raster_keeper, raster_kind}
use Rattle.records.specs.declared.instruction.Instruction.{Instruction}
use Rattle.records.specs.declared.instruction.Instruction.TheVariants.{Const, Knob, Sub, Mul, Sqr}
use Rattle.records.specs.declared.reason.Reason.TheVariants.{TooLarge}
use Rattle.records.specs.declared.target.Target.{Target}
use Rattle.records.specs.Broken.{at}
use Rattle.records.specs.Rules.{Content}
use Rattle.evaluation.specs.declared.says.Says.TheVariants.{Apart, Open}
use Rattle.cases.specs.Cases.{Case}
use Rattle.cases.specs.Cases.Case.{one, two, accepts, refuses, judges, narrows, cuts}

-- the numbers from l to h
abbrev pub from_to : ℤ → ℤ → Ends
from_to l h = record { lo = l; hi = h }

-- one knob from 0 to 9 with limit 1, a program, and one target
abbrev pub small : List Instruction → Target → Content
small program target = record { limit = 1; sides = from_to (pos 0) (pos 9) ∷ []; program = program; targets = target ∷ [] }

-- (knob - 3) squared within 0 to 4
abbrev pub near_three : Content
near_three = small (Knob 0 ∷ Const (pos 3) ∷ Sub 0 1 ∷ Sqr 2 ∷ []) (record { register = 3; low = pos 0; high = pos 4 })

-- its record
abbrev pub near_three_record : List ℕ
near_three_record =
    0 ∷ 0 ∷ 0 ∷ 47 ∷ 1 ∷ 1 ∷ 0 ∷ 1 ∷ 0 ∷ 0 ∷ 0 ∷ 9 ∷ 4
    ∷ 1 ∷ 0 ∷ 0 ∷ 0 ∷ 0 ∷ 0 ∷ 0
    ∷ 0 ∷ 0 ∷ 0 ∷ 0 ∷ 0 ∷ 0 ∷ 3
    ∷ 3 ∷ 0 ∷ 1 ∷ 0 ∷ 0 ∷ 0 ∷ 0
    ∷ 5 ∷ 2 ∷ 0 ∷ 0 ∷ 0 ∷ 0 ∷ 0
    ∷ 1 ∷ 3 ∷ 0 ∷ 0 ∷ 0 ∷ 0 ∷ 0 ∷ 0 ∷ 0 ∷ 4 ∷ []

-- the knob times 4 within 6 to 7
abbrev pub no_multiple : Content
no_multiple = small (Knob 0 ∷ Const (pos 4) ∷ Mul 0 1 ∷ []) (record { register = 2; low = pos 6; high = pos 7 })

-- its record
abbrev pub no_multiple_record : List ℕ
no_multiple_record =
    0 ∷ 0 ∷ 0 ∷ 40 ∷ 1 ∷ 1 ∷ 0 ∷ 1 ∷ 0 ∷ 0 ∷ 0 ∷ 9 ∷ 3
    ∷ 1 ∷ 0 ∷ 0 ∷ 0 ∷ 0 ∷ 0 ∷ 0
    ∷ 0 ∷ 0 ∷ 0 ∷ 0 ∷ 0 ∷ 0 ∷ 4
    ∷ 4 ∷ 0 ∷ 1 ∷ 0 ∷ 0 ∷ 0 ∷ 0
    ∷ 1 ∷ 2 ∷ 0 ∷ 0 ∷ 0 ∷ 6 ∷ 0 ∷ 0 ∷ 0 ∷ 7 ∷ []

-- 32,768 squared, which is the bound
abbrev pub at_bound : Content
at_bound = small (Const (pos 32768) ∷ Sqr 0 ∷ []) (record { register = 1; low = pos 0; high = pos 0 })

-- its record
abbrev pub at_bound_record : List ℕ
at_bound_record =
    0 ∷ 0 ∷ 0 ∷ 33 ∷ 1 ∷ 1 ∷ 0 ∷ 1 ∷ 0 ∷ 0 ∷ 0 ∷ 9 ∷ 2
    ∷ 0 ∷ 0 ∷ 0 ∷ 0 ∷ 0 ∷ 128 ∷ 0
    ∷ 5 ∷ 0 ∷ 0 ∷ 0 ∷ 0 ∷ 0 ∷ 0
    ∷ 1 ∷ 1 ∷ 0 ∷ 0 ∷ 0 ∷ 0 ∷ 0 ∷ 0 ∷ 0 ∷ 0 ∷ []

-- the record of 32,768 times 32,769, in instruction 2
abbrev pub past_bound_record : List ℕ
past_bound_record =
    0 ∷ 0 ∷ 0 ∷ 40 ∷ 1 ∷ 1 ∷ 0 ∷ 1 ∷ 0 ∷ 0 ∷ 0 ∷ 9 ∷ 3
    ∷ 0 ∷ 0 ∷ 0 ∷ 0 ∷ 0 ∷ 128 ∷ 0
    ∷ 0 ∷ 0 ∷ 0 ∷ 0 ∷ 0 ∷ 128 ∷ 1
    ∷ 4 ∷ 0 ∷ 1 ∷ 0 ∷ 0 ∷ 0 ∷ 0
    ∷ 1 ∷ 2 ∷ 0 ∷ 0 ∷ 0 ∷ 0 ∷ 0 ∷ 0 ∷ 0 ∷ 0 ∷ []

-- all numbers from -3 to 2, as a plain and as a raster range
abbrev pub plain_sample : Row
plain_sample = plain_kind.side (negsuc 2) (pos 2)

abbrev pub raster_sample : Row
raster_sample = raster_kind.side (negsuc 2) (pos 2)

-- operations on ranges: a square knows that both factors are one number, and a shift rounds down below 0 too
abbrev pub on_ranges : List Case
on_ranges =
    one plain_kind (λ k. k.sqr) plain_sample (Some (from_to (pos 0) (pos 9)))
    ∷ two plain_kind (λ k. k.mul) plain_sample plain_sample (Some (from_to (negsuc 5) (pos 9)))
    ∷ one plain_kind (λ k. k.shift 1) (plain_kind.side (negsuc 0) (negsuc 0)) (Some (point (negsuc 0)))
    ∷ one raster_kind (λ k. k.sqr) raster_sample (Some (from_to (pos 0) (pos 9)))
    ∷ two raster_kind (λ k. k.mul) raster_sample raster_sample (Some (from_to (negsuc 5) (pos 9)))
    ∷ one raster_kind (λ k. k.shift 1) (raster_kind.side (negsuc 0) (negsuc 0)) (Some (point (negsuc 0)))
    ∷ []

-- the knob times 4 is never 6 or 7: the raster tells so at once, the plain range does not
abbrev pub on_targets : List Case
on_targets =
    accepts no_multiple_record no_multiple
    ∷ judges raster_kind no_multiple Apart
    ∷ judges plain_kind no_multiple Open
    ∷ accepts near_three_record near_three
    ∷ judges raster_kind near_three Open
    ∷ judges plain_kind near_three Open
    ∷ []

-- the bound itself is no refusal, and beyond it the instruction is told
abbrev pub on_the_bound : List Case
on_the_bound =
    accepts at_bound_record at_bound
    ∷ refuses past_bound_record (at TooLarge 2)
    ∷ []

-- the numbers 0 to 9, 3 to 4 and their product, 7 to 8, by a kind of range
abbrev pub factors : Kind → List Row
factors k = k.side (pos 0) (pos 9) ∷ k.side (pos 3) (pos 4) ∷ k.side (pos 7) (pos 8) ∷ []

-- the first factor is 2, since no other number times 3 or 4 is 7 or 8; and then the second is 4
abbrev pub factors_left : Option (List Ends)
factors_left = Some (point (pos 2) ∷ point (pos 4) ∷ from_to (pos 7) (pos 8) ∷ [])

-- narrowing from the targets to the box
abbrev pub on_cutting : List Case
on_cutting =
    narrows plain_kind plain_keeper (Mul 0 1) 2 (factors plain_kind) factors_left
    ∷ narrows raster_kind raster_keeper (Mul 0 1) 2 (factors raster_kind) factors_left
    ∷ cuts plain_kind plain_keeper near_three (Some (from_to (pos 1) (pos 5) ∷ []))
    ∷ cuts raster_kind raster_keeper near_three (Some (from_to (pos 1) (pos 5) ∷ []))
    ∷ cuts plain_kind plain_keeper no_multiple None
    ∷ cuts raster_kind raster_keeper no_multiple None
    ∷ []

-- all of them
abbrev pub worked : List Case
worked = on_ranges ++ (on_targets ++ (on_the_bound ++ on_cutting))
