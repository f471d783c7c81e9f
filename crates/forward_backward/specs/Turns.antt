-- What the code's answers say of what is left, and the turns of its loops.
use Rattle.std.specs.Prelude.{◌≡◌, ℕ, suc, ◌+◌, ◌<◌, ◌≤◌, List, map, length, get_or, take, drop, Some, None, Option, slice_index_or, slice_set, refl}
use native.Mathlib.Omega.{arith}
use Rattle.std.proofs.Common.{◌∙◌, length-set}
use Rattle.std.proofs.Math.Path.{ap}
use Rattle.std.proofs.Math.Seq.{take-set-lt}
use Rattle.std.proofs.lemmas.Grind.{common_steps}
use Rattle.std.proofs.lemmas.List.{at_drop_more, drop_all, map-set}
use Rattle.boxes.specs.Boxes.{Ends, nought}
use Rattle.boxes.specs.Views.{ends_of, sides_of}
use Rattle.boxes.specs.declared.region.Region.{Region}
use Rattle.boxes.specs.declared.side.Side.{Side}
use Rattle.ranges.specs.declared.row.Row.{Row}
use Rattle.ranges.specs.Kind.{Keeper, Kind}
use Rattle.records.specs.declared.instruction.Instruction.{Instruction}
use Rattle.records.specs.declared.instruction.Instruction.TheVariants.{Const, Knob, Add, Sub, Mul, Sqr, Min, Shr}
use Rattle.records.specs.declared.target.Target.{Target}
use Rattle.records.specs.Rules.{no_target}
use Rattle.jobs.specs.Registers.{Before, no_instruction}
use Rattle.cutters.specs.Cutting.{and_then}
use Rattle.forward_backward.specs.Operands.{Earlier, aimed, narrowed, placed}
use Rattle.forward_backward.specs.Backward.{KnobOf, State, backward, beside, box_of, common, side_cut, turned}
use Rattle.forward_backward.specs.Told.{Left, TurnedTo, boxed}

-- an answer gives back what is left, and what is left gives the answer
pub left_none : (o : Option (List Row)) (rows : List Row) → Left o None rows → o ≡ None
left_none o rows h = grind (arith, common_steps)

pub left_some : (o : Option (List Row)) (rows : List Row) → Left o (Some tt) rows → o ≡ Some rows
left_some o rows h = grind (arith, common_steps)

pub none_left : (o : Option (List Row)) (rows : List Row) → o ≡ None → Left o None rows
none_left o rows e = rw e refl

pub some_left : (o : Option (List Row)) (rows : List Row) → o ≡ Some rows → Left o (Some tt) rows
some_left o rows e = rw e (refl, refl)

pub turned_none : (o : Option State) (rows : List Row) → TurnedTo o None rows → o ≡ None
turned_none o rows h = grind (arith, common_steps)

pub turned_some : (o : Option State) (r : Region) (rows : List Row) → TurnedTo o (Some r) rows → o ≡ Some (record { rows = rows; box = sides_of r })
turned_some o r rows h = grind (arith, common_steps)

pub none_turned : (o : Option State) (rows : List Row) → o ≡ None → TurnedTo o None rows
none_turned o rows e = rw e refl

pub some_turned : (o : Option State) (r : Option Region) (rows : List Row) (box : List Ends) → boxed r ≡ Some box → o ≡ Some (record { rows = rows; box = box }) → TurnedTo o r rows
some_turned o r rows box b e = rw e (b, refl)

-- what an instruction may name, in two parts
pub earlier : (knobs j : ℕ) (i : Instruction) → Before knobs j i → Earlier j i
earlier knobs j (Const c) w = tt
earlier knobs j (Knob m) w = tt
earlier knobs j (Add a b) w = w
earlier knobs j (Sub a b) w = w
earlier knobs j (Mul a b) w = w
earlier knobs j (Sqr a) w = w
earlier knobs j (Min a b) w = w
earlier knobs j (Shr a b) w = w

pub knob_of : (knobs j : ℕ) (i : Instruction) → Before knobs j i → KnobOf knobs i
knob_of knobs j (Const c) w = tt
knob_of knobs j (Knob m) w = w
knob_of knobs j (Add a b) w = tt
knob_of knobs j (Sub a b) w = tt
knob_of knobs j (Mul a b) w = tt
knob_of knobs j (Sqr a) w = tt
knob_of knobs j (Min a b) w = tt
knob_of knobs j (Shr a b) w = tt

-- as many sides as before
abbrev pub AsLong : List Ends → Option (List Ends) → Type 0
AsLong box None = Unit {0}
AsLong box (Some a) = length a ≡ length box

placed_long : (box : List Ends) (m : ℕ) (o : Option Ends) → AsLong box (placed box m o)
placed_long box m None = tt
placed_long box m (Some e) = length-set box m e

-- what is so of the box as it is, for every instruction, and of a knob's side cut, is so of what an instruction's side cut leaves
pub side_cut_by : (z : Ends) (box : List Ends) (P : Instruction → Option (List Ends) → Type 0) → ((i : Instruction) → P i (Some box)) → ((m : ℕ) → P (Knob m) (placed box m (common (slice_index_or box m nought) z))) → (i : Instruction) → P i (side_cut i z box)
side_cut_by z box P f g (Const c) = f (Const c)
side_cut_by z box P f g (Knob m) = g m
side_cut_by z box P f g (Add a b) = f (Add a b)
side_cut_by z box P f g (Sub a b) = f (Sub a b)
side_cut_by z box P f g (Mul a b) = f (Mul a b)
side_cut_by z box P f g (Sqr a) = f (Sqr a)
side_cut_by z box P f g (Min a b) = f (Min a b)
side_cut_by z box P f g (Shr a b) = f (Shr a b)

pub side_cut_long : (i : Instruction) (z : Ends) (box : List Ends) → AsLong box (side_cut i z box)
side_cut_long i z box = side_cut_by z box (λ _ o. AsLong box o) (λ _. refl) (λ m. placed_long box m (common (slice_index_or box m nought) z)) i

beside_long : (box : List Ends) (o : Option (List Row)) (p : Option (List Ends)) → AsLong box p → AsLong box (box_of (beside o p))
beside_long box None p l = tt
beside_long box (Some rows) None l = tt
beside_long box (Some rows) (Some b) l = l

module _ (k : Kind) (n : Keeper) where
  pub turned_long : (i : Instruction) (j : ℕ) (s : State) → AsLong s.box (box_of (turned k n i j s))
  turned_long i j s = beside_long s.box _ _ (side_cut_long i _ s.box)

  -- one instruction more
  pub backward_turn : (program : List Instruction) (m j : ℕ) (s : State) → j + 1 ≡ m → backward k n program m s ≡ and_then (turned k n (slice_index_or program j no_instruction) j s) (backward k n program j)
  unfolding backward
  backward_turn program m j s h = let e : m ≡ suc j = omega arith in ap (λ i. backward k n program i s) e

  pub backward_over : (program : List Instruction) (j : ℕ) (s : State) → j ≤ 0 → backward k n program j s ≡ Some s
  unfolding backward
  backward_over program j s h = let e : j ≡ 0 = omega arith in ap (λ m. backward k n program m s) e

  -- one target more
  pub aimed_turn : (targets : List Target) (i : ℕ) (rows : List Row) → i < length targets →
      aimed k n (drop i targets) rows ≡ and_then (narrowed k n rows (get_or targets i no_target).register (record { lo = (get_or targets i no_target).low; hi = (get_or targets i no_target).high })) (aimed k n (drop (i + 1) targets))
  aimed_turn targets i rows h = at_drop_more (λ ts. aimed k n ts rows) targets i no_target h

  pub aimed_over : (targets : List Target) (i : ℕ) (rows : List Row) → length targets ≤ i → aimed k n (drop i targets) rows ≡ Some rows
  aimed_over targets i rows h = ap (λ ts. aimed k n ts rows) (drop_all i targets h)

-- the sides of a region with another one in one place
pub set_side : (knobs : ℕ) (sides : List Side) (m : ℕ) (s : Side) → m < knobs → map ends_of (take knobs (slice_set sides m s)) ≡ slice_set (map ends_of (take knobs sides)) m (ends_of s)
set_side knobs sides m s h = ap (map ends_of) (take-set-lt knobs sides m s h) ∙ map-set ends_of (take knobs sides) m s
