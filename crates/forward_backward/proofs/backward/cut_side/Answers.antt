use Rattle.std.proofs.Common.{◌≡◌, ℕ, ◌<◌, List, length, map, get_or, ℤ, Some, sym, ap, ◌∙◌, subst, arith}
use Rattle.std.proofs.lemmas.Int.{clamps, ints}
use Rattle.std.specs.Int.{int_max, int_min}
use Rattle.boxes.specs.Boxes.{Ends}
use Rattle.boxes.specs.Views.{ends_of, side, sides_of}
use Rattle.boxes.specs.declared.region.Region.{Region}
use Rattle.boxes.specs.declared.side.Side.{Side}
use Rattle.boxes.proofs.Listed.{knobs_long, side_at}
use Rattle.ranges.specs.Kind.{ends}
use Rattle.records.specs.declared.instruction.Instruction.{Instruction}
use Rattle.records.specs.declared.instruction.Instruction.TheVariants.{Knob}
use Rattle.forward_backward.specs.Operands.{placed}
use Rattle.forward_backward.specs.Backward.{KnobOf, common, side_cut}
use Rattle.forward_backward.specs.Told.{boxed}
use Rattle.tables.specs.Tables.{entries}
use Rattle.std.proofs.lemmas.List.{map-set}
use Rattle.forward_backward.proofs.backward.cut_side.Goals as goal

-- what cutting the side of the code leaves is what cutting that of the box leaves
cut_is : (r : Region) (i : Instruction) (m : ℕ) (xs : List Side) (d : Side) (z : Ends) (l h : ℤ) → i ≡ Knob m → KnobOf (length (sides_of r)) i → xs ≡ entries r.sides → d ≡ get_or xs m d
    → l ≡ int_max d.low z.lo → h ≡ int_min d.high z.hi → placed (sides_of r) m (side (record { lo = l; hi = h })) ≡ side_cut i z (sides_of r)
cut_is r i m xs d z l h k n s e p q =
    let w : m < length (entries r.sides) = omega (arith, subst (KnobOf (length (sides_of r))) k n, knobs_long r) in
    let t = e ∙ ap (λ ys. get_or ys m d) s in
    ap (placed (sides_of r) m) ((λ t. side (record { lo = p t; hi = q t })) ∙ ap (λ x. common x z) (ap ends_of t ∙ sym (side_at r m d w))) ∙ ap (λ y. side_cut y z (sides_of r)) (sym k)

pub returns-in_err-cut : goal.returns-in_err-cut
returns-in_err-cut c =
    let r = c.args.region in
    let m = c.in-Knob.m in
    ap boxed c.from_residual.ensures ∙ ap (placed (sides_of r) m) c.in_err-cut.ensures
    ∙ cut_is r c.args.instruction m _ c.index-sides-m.result (ends c.args.z) _ _ c.in-Knob.is c.requires c.sides.ensures c.index-sides-m.is (omega (arith, ints, clamps)) (omega (arith, ints, clamps))

pub returns : goal.returns
returns c =
    let r = c.args.region in
    let m = c.in-Knob.m in
    ap Some (ap (map ends_of) c.set.ensures ∙ map-set ends_of (entries r.sides) m c.in_ok-cut.cut) ∙ ap (placed (sides_of r) m) c.in_ok-cut.ensures
    ∙ cut_is r c.args.instruction m _ c.index-sides-m.result (ends c.args.z) _ _ c.in-Knob.is c.requires c.sides.ensures c.index-sides-m.is (omega (arith, ints, clamps)) (omega (arith, ints, clamps))
