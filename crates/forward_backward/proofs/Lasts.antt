-- The last of the first items of a list, and the items before it; the turn that takes it.
use Rattle.std.proofs.Common.{◌≡◌, List, [], ◌∷◌, length, get_or, take, Option, refl, sym, ap, ◌∙◌, arith}
use Rattle.std.specs.List.{IsLastAndRest}
use Rattle.std.proofs.lemmas.Grind.{common_steps}
use Rattle.std.proofs.lemmas.List.{take-take, take_at}
use Rattle.ranges.specs.Kind.{Keeper, Kind}
use Rattle.records.specs.declared.instruction.Instruction.{Instruction}
use Rattle.jobs.specs.Registers.{no_instruction}
use Rattle.cutters.specs.Cutting.{and_then}
use Rattle.forward_backward.specs.Backward.{State, backward, box_of, turned}
use Rattle.forward_backward.specs.Turns.{backward_turn}

module _ {A : Type 0} (all xs rest : List A) (x : A) (s : IsLastAndRest xs x rest) (e : xs ≡ take (length xs) all) where
  pub earlier_first : rest ≡ take (length rest) all
  earlier_first =
      sym (take_at rest (x ∷ []) (length rest) refl)
      ∙ ap (take (length rest)) (sym s.0 ∙ e)
      ∙ take-take (length rest) (length xs) all (omega (arith, s.1))

  pub last_at : (d : A) → x ≡ get_or all (length rest) d
  last_at d = grind (arith, common_steps)

-- the last instruction taken backward, and then those before it
pub last_turn : (k : Kind) (n : Keeper) (all xs rest : List Instruction) (x : Instruction) → IsLastAndRest xs x rest → xs ≡ take (length xs) all → (s : State) (o : Option State) → turned k n x (length rest) s ≡ o
    → box_of (backward k n all (length xs) s) ≡ box_of (and_then o (backward k n all (length rest)))
last_turn k n all xs rest x l e s o t =
    ap box_of (backward_turn k n all (length xs) (length rest) s l.1 ∙ ap (λ y. and_then y (backward k n all (length rest))) (ap (λ i. turned k n i (length rest) s) (sym (last_at all xs rest x l e no_instruction)) ∙ t))
