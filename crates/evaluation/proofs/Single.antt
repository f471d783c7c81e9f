-- Over a box of one setting each register holds its value there, and nothing else.
use Rattle.std.proofs.Common.{◌≡◌, ℕ, ◌<◌, List, length, get_or, ℤ, pos, ◌≤ℤ◌, sym, refl, ap, ◌∙◌, arith}
use Rattle.std.proofs.lemmas.Int.{ints}
use Rattle.boxes.specs.Boxes.{Ends, nought}
use Rattle.boxes.proofs.Counting.{InOrder}
use Rattle.boxes.proofs.Nesting.{high_at, highs, highs_in, low_at, lows, lows_in}
use Rattle.ranges.specs.declared.row.Row.{Row}
use Rattle.ranges.specs.Kind.{Holds, Kind, Lawful, ends}
use Rattle.ranges.specs.HullsLemmas.{Hull1, Hull2, On, hull_add, hull_mul, hull_min, hull_shr, hull_sqr, hull_sub}
use Rattle.records.specs.declared.instruction.Instruction.{Instruction}
use Rattle.records.specs.declared.instruction.Instruction.TheVariants.{Const, Knob, Add, Sub, Mul, Sqr, Min, Shr}
use Rattle.jobs.specs.Meaning.{register}
use Rattle.jobs.specs.Registers.{Before, Wired, expected, no_instruction, no_row, registers}
use Rattle.jobs.proofs.Holding.{Sided, below_length, reg_answered, reg_holds, reg_valid}
use Rattle.jobs.proofs.Values.{by_those_below}
use Rattle.evaluation.specs.Laws.{Only}
use Rattle.evaluation.proofs.Growing.{in_order}

-- the sides of such a box have one number each
one_side : (box : List Ends) (o : InOrder box) (s : List ℤ) → Only box s → (n : ℕ) → n < length box → (get_or box n nought).lo ≡ (get_or box n nought).hi
one_side box o s only n h =
    sym (low_at box o n h) ∙ ap (λ l. get_or l n (pos 0)) (only.alone (lows box o) (lows_in box o) ∙ sym (only.alone (highs box o) (highs_in box o))) ∙ high_at box o n h

-- ends of one number
abbrev One : Ends → Type 0
One e = e.lo ≡ e.hi

on_one : (e : Ends) (x : ℤ) → One e → On e x → x ≡ e.lo
on_one e x o p = omega (arith, ints)

from_one : (e : Ends) → One e → e.lo ≤ℤ e.hi
from_one e o = omega (arith, ints)

-- one number gives one answer
one_one : (f : ℤ → ℤ) (e : Ends → Ends) → Hull1 f e → (a : Ends) → One a → One (e a)
one_one f e t a p =
    let same : (x : ℤ) → On a x → f x ≡ f a.lo = λ x q. ap f (on_one a x p q) in
    t.low a (from_one a p) (λ z. z ≡ f a.lo) same ∙ sym (t.high a (from_one a p) (λ z. z ≡ f a.lo) same)

two_one : (f : ℤ → ℤ → ℤ) (e : Ends → Ends → Ends) → Hull2 f e → (a b : Ends) → One a → One b → One (e a b)
two_one f e t a b p q =
    let same : (x y : ℤ) → On a x → On b y → f x y ≡ f a.lo b.lo = λ x y u v. let m = on_one a x p u in let n = on_one b y q v in (λ i. f (m i) (n i)) in
    t.low a b (from_one a p) (from_one b q) (λ z. z ≡ f a.lo b.lo) same ∙ sym (t.high a b (from_one a p) (from_one b q) (λ z. z ≡ f a.lo b.lo) same)

squeezed : (l h a b : ℤ) → a ≡ b → a ≤ℤ l → h ≤ℤ b → l ≤ℤ h → l ≡ h
squeezed l h a b e p q o = omega (arith, ints)

pinned : (l h x v : ℤ) → l ≡ h → (l ≤ℤ x) × (x ≤ℤ h) → (l ≤ℤ v) × (v ≤ℤ h) → x ≡ v
pinned l h x v e p q = omega (arith, ints)

module _ (k : Kind) (L : Lawful k) (program : List Instruction) (box : List Ends) (s : Sided box) (w : Wired (length box) program) (setting : List ℤ) (only : Only box setting) where
  abbrev Q : List Row
  Q = registers k program box

  order : InOrder box
  order n h = (s n h).order

  expected_one : (i : Instruction) (j : ℕ) → Before (length box) j i → ((a : ℕ) → a < j → One (ends (get_or Q a no_row))) → One (expected box i Q)
  expected_one (Const c) j b f = refl
  expected_one (Knob n) j b f = one_side box order setting only n b
  expected_one (Add a c) j b f = two_one _ _ hull_add _ _ (f a b.0) (f c b.1)
  expected_one (Sub a c) j b f = two_one _ _ hull_sub _ _ (f a b.0) (f c b.1)
  expected_one (Mul a c) j b f = two_one _ _ hull_mul _ _ (f a b.0) (f c b.1)
  expected_one (Sqr a) j b f = one_one _ _ hull_sqr _ (f a b)
  expected_one (Min a c) j b f = two_one _ _ hull_min _ _ (f a b.0) (f c b.1)
  expected_one (Shr a c) j b f = one_one _ _ (hull_shr c) _ (f a b)

  row_one : (j : ℕ) → j < length Q → One (ends (get_or Q j no_row))
  row_one = by_those_below (λ j. j < length Q → One (ends (get_or Q j no_row))) (λ j below h.
      let e = expected_one (get_or program j no_instruction) j (w j (below_length k L program box s w j h)) (λ a q. below a q (omega arith)) in
      let n = (reg_answered k L program box s w j h).inside in
      squeezed _ _ _ _ e n.low n.high (in_order k L program box s w j h))

  pub holds_only : (j : ℕ) → j < length Q → (x : ℤ) → Holds k (get_or Q j no_row) x → x ≡ register program setting j
  holds_only j h x q =
      let r = get_or Q j no_row in
      let v = reg_valid k L program box s w j h in
      pinned r.low r.high x (register program setting j) (row_one j h) (L.between r x v q) (L.between r (register program setting j) v (reg_holds k L program box s w setting only.inside j h))
