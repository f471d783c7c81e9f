-- What forward-backward leaves of a box, by the meaning of a narrowing kind of range.
use Rattle.std.specs.Prelude.{ℕ, zero, suc, ◌<◌, cond, List, length, Some, None, Option, slice_index_or}
use Rattle.std.specs.Int.{int_max, int_min}
use Rattle.boxes.specs.Boxes.{Ends, nested, nought}
use Rattle.boxes.specs.Views.{side}
use Rattle.ranges.specs.declared.row.Row.{Row}
use Rattle.ranges.specs.Kind.{Keeper, Kind}
use Rattle.records.specs.declared.instruction.Instruction.{Instruction}
use Rattle.records.specs.declared.instruction.Instruction.TheVariants.{Const, Knob, Add, Sub, Mul, Sqr, Min, Shr}
use Rattle.records.specs.Rules.{Content}
use Rattle.jobs.specs.Registers.{no_instruction, registers}
use Rattle.cutters.specs.Cutting.{Meaning, and_then}
use Rattle.forward_backward.specs.Operands.{aimed, ends_at, operands, placed}

-- the instruction's knob, if it reads one, is one of so many
abbrev pub KnobOf : ℕ → Instruction → Type 0
KnobOf knobs (Const c) = Unit {0}
KnobOf knobs (Knob m) = m < knobs
KnobOf knobs (Add a b) = Unit {0}
KnobOf knobs (Sub a b) = Unit {0}
KnobOf knobs (Mul a b) = Unit {0}
KnobOf knobs (Sqr a) = Unit {0}
KnobOf knobs (Min a b) = Unit {0}
KnobOf knobs (Shr a b) = Unit {0}

-- what two pairs of ends have in common, if they do not cross
abbrev pub common : Ends → Ends → Option Ends
common e z = side (record { lo = int_max e.lo z.lo; hi = int_min e.hi z.hi })

-- the box with the side of an instruction's knob cut to its register's ends
abbrev pub side_cut : Instruction → Ends → List Ends → Option (List Ends)
side_cut (Const c) z box = Some box
side_cut (Knob m) z box = placed box m (common (slice_index_or box m nought) z)
side_cut (Add a b) z box = Some box
side_cut (Sub a b) z box = Some box
side_cut (Mul a b) z box = Some box
side_cut (Sqr a) z box = Some box
side_cut (Min a b) z box = Some box
side_cut (Shr a b) z box = Some box

-- going backward: the rows of the registers and the box, as they stand
pub record State : Type 0 where
  pub rows : List Row
  pub box : List Ends

-- the box, where rows are left beside it
abbrev pub beside : Option (List Row) → Option (List Ends) → Option State
beside None box = None
beside (Some rows) None = None
beside (Some rows) (Some box) = Some (record { rows = rows; box = box })

-- instruction j taken backward
abbrev pub turned : Kind → Keeper → Instruction → ℕ → State → Option State
turned k n i j s = beside (operands k n i j s.rows) (side_cut i (ends_at k n s.rows j) s.box)

-- the first j instructions taken backward, from the last of them to the first
unfoldable pub backward : Kind → Keeper → List Instruction → ℕ → State → Option State
backward k n program zero s = Some s
backward k n program (suc j) s = and_then (turned k n (slice_index_or program j no_instruction) j s) (backward k n program j)

-- the box of what is left
abbrev pub box_of : Option State → Option (List Ends)
box_of None = None
box_of (Some s) = Some s.box

-- what is left of a box by rows of its registers
abbrev pub narrowed_box : Kind → Keeper → Content → List Ends → List Row → Option (List Ends)
narrowed_box k n c box rows = and_then (aimed k n c.targets rows) (λ left. box_of (backward k n c.program (length c.program) (record { rows = left; box = box })))

-- what forward-backward leaves: a box elsewhere as it is, another by the rows of its registers
abbrev pub forward_backward : Kind → Keeper → Meaning
forward_backward k n c box = cond (nested box c.sides) (narrowed_box k n c box (registers k c.program box)) (Some box)
