-- Cutting a side leaves a box within the box, and loses no setting whose knob reads the register's number.
use Rattle.std.specs.Prelude.{◌≡◌, ℕ, ◌<◌, true, List, length, ℤ, pos, Some, slice_index_or, slice_set}
use Rattle.std.proofs.Common.{arith, length-set}
use Rattle.std.proofs.lemmas.Grind.{elements}
use Rattle.std.proofs.lemmas.Int.{clamps, ints}
use Rattle.std.specs.Int.{int_max, int_min}
use Rattle.boxes.specs.Boxes.{Ends, In, Part, good_side, nought}
use Rattle.boxes.proofs.Goods.{Good, good_in, good_out, side_by, side_some}
use Rattle.inverses.specs.InverseLaws.{Lies}
use Rattle.records.specs.declared.instruction.Instruction.{Instruction}
use Rattle.cutters.specs.Cutting.{LeftIn, Proper, StillIn}
use Rattle.forward_backward.specs.Operands.{placed}
use Rattle.forward_backward.specs.Backward.{KnobOf, common, side_cut}
use Rattle.forward_backward.specs.Placing.{at_each}
use Rattle.forward_backward.specs.Turns.{side_cut_by}

-- what two pairs of ends have in common, where it is a side
abbrev met : Ends → Ends → Ends
met e z = record { lo = int_max e.lo z.lo; hi = int_min e.hi z.hi }

module _ (box : List Ends) (p : Proper box) (m : ℕ) (l : m < length box) (z : Ends) where
  abbrev old : Ends
  old = slice_index_or box m nought

  -- the box with that side is a box within the box
  cut_proper : Good (met old z) → Proper (slice_set box m (met old z))
  cut_proper g =
      let k = length-set box m (met old z) in
      let s = p.some in
      let f = p.few in
      record {
        some = omega arith;
        few = omega arith;
        sides = λ n h. at_each box m n (met old z) nought (λ _ e. good_side e ≡ true) l (good_out (met old z) g) (p.sides n (omega arith));
      }

  cut_part : Part (slice_set box m (met old z)) box
  cut_part setting i =
      let k = length-set box m (met old z) in
      let s = i.knobs in
      record {
        knobs = omega arith;
        from = λ n h. let a = i.from n (omega arith) in grind (arith, elements, ints, clamps);
        to = λ n h. let a = i.to n (omega arith) in grind (arith, elements, ints, clamps);
      }

  knob_inside : LeftIn box (placed box m (common old z))
  knob_inside = side_by (met old z) (λ o. LeftIn box (placed box m o)) (λ g. (cut_proper g, cut_part)) (λ _. tt)

  -- a setting of the box whose knob lies between the register's ends is in what is left
  pub knob_keeps : (setting : List ℤ) → In box setting → Lies z (slice_index_or setting m (pos 0)) → StillIn setting (placed box m (common old z))
  knob_keeps setting i u =
      let o = good_in old (p.sides m l) in
      let f = i.from m l in
      let t = i.to m l in
      let g : Good (met old z) = record { above = omega (arith, ints, clamps); order = omega (arith, ints, clamps); below = omega (arith, ints, clamps) } in
      let k = length-set box m (met old z) in
      let s = i.knobs in
      rw (side_some (met old z) g) (record {
        knobs = omega arith;
        from = λ n h. let a = i.from n (omega arith) in grind (arith, elements, ints, clamps);
        to = λ n h. let a = i.to n (omega arith) in grind (arith, elements, ints, clamps);
      })

same_inside : (box : List Ends) → Proper box → LeftIn box (Some box)
same_inside box p = (p, λ setting i. i)

pub cut_inside : (i : Instruction) (z : Ends) (box : List Ends) → Proper box → KnobOf (length box) i → LeftIn box (side_cut i z box)
cut_inside i z box p = side_cut_by z box (λ i o. KnobOf (length box) i → LeftIn box o) (λ _ _. same_inside box p) (λ m l. knob_inside box p m l z) i
