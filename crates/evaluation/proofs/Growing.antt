-- Over a box inside one where every plain register is within the bound, no register of any kind is too large.
use Rattle.std.proofs.Common.{◌≡◌, ℕ, ◌<◌, List, length, get_or, ◌≤ℤ◌, Some, sym, ap, subst, arith}
use Rattle.std.proofs.lemmas.Int.{ints}
use Rattle.boxes.specs.Boxes.{Ends, nought}
use Rattle.boxes.proofs.Nesting.{Nested}
use Rattle.ranges.specs.declared.row.Row.{Row}
use Rattle.ranges.specs.Bounds.{Inside}
use Rattle.ranges.specs.Kind.{Answer, Kind, Lawful, ends}
use Rattle.ranges.specs.Plains.{plain, plain_kind, row_of}
use Rattle.ranges.specs.Fitting.{plain_by}
use Rattle.ranges.specs.HullsLemmas.{hull_add, hull_mul, hull_min, hull_shr, hull_sqr, hull_sub, nested1, nested2}
use Rattle.ranges.specs.Lawfulness.{bounded_in, plain_lawful}
use Rattle.records.specs.declared.instruction.Instruction.{Instruction}
use Rattle.records.specs.declared.instruction.Instruction.TheVariants.{Const, Knob, Add, Sub, Mul, Sqr, Min, Shr}
use Rattle.jobs.specs.Registers.{Before, Wired, expected, gives, no_instruction, no_row, registers}
use Rattle.jobs.proofs.Fills.{fill_stops, fill_upto}
use Rattle.jobs.proofs.Holding.{Results, Sided, below_length, gives_answer, reg_answered, reg_at, reg_valid}
use Rattle.jobs.proofs.Values.{by_those_below}

-- a row of a lawful kind has its ends in order
pub in_order : (k : Kind) → Lawful k → (program : List Instruction) (box : List Ends) → Sided box → Wired (length box) program →
    (j : ℕ) → j < length (registers k program box) → (get_or (registers k program box) j no_row).low ≤ℤ (get_or (registers k program box) j no_row).high
in_order k L program box s w j h =
    let r = get_or (registers k program box) j no_row in
    let v = reg_valid k L program box s w j h in
    (L.between r r.low v (L.first r v)).1

-- the plain kind answers just the plain answer
plain_gives : (e : Ends) (r : Row) → Some r ≡ plain e → ends r ≡ e
plain_gives e r = plain_by e (λ o. Some r ≡ o → ends r ≡ e) (λ o q. let p : r ≡ row_of e = cc in ap ends p) (λ n q. absurd (cc))

plain_expected : (box : List Ends) (i : Instruction) (qs : List Row) (r : Row) → Some r ≡ gives plain_kind box i qs → ends r ≡ expected box i qs
plain_expected box (Const c) qs r q = plain_gives _ r q
plain_expected box (Knob n) qs r q = let p : r ≡ row_of (get_or box n nought) = cc in ap ends p
plain_expected box (Add a b) qs r q = plain_gives _ r q
plain_expected box (Sub a b) qs r q = plain_gives _ r q
plain_expected box (Mul a b) qs r q = plain_gives _ r q
plain_expected box (Sqr a) qs r q = plain_gives _ r q
plain_expected box (Min a b) qs r q = plain_gives _ r q
plain_expected box (Shr a b) qs r q = plain_gives _ r q

inside_through : (a b c : Ends) → Inside a b → Inside b c → Inside a c
inside_through a b c p q = record { low = omega (arith, ints); high = omega (arith, ints) }

module _ (k : Kind) (L : Lawful k) (program : List Instruction) (box other : List Ends) (s : Sided box) (s' : Sided other) (w : Wired (length box) program) (sub : Nested box other) where
  w' : Wired (length other) program
  w' = subst (λ n. Wired n program) sub.knobs w

  -- the plain answer of an instruction grows with its operands and with the box
  module _ (j : ℕ) (qs ps : List Row) (o : (a : ℕ) → a < j → (get_or qs a no_row).low ≤ℤ (get_or qs a no_row).high) (f : (a : ℕ) → a < j → Inside (ends (get_or qs a no_row)) (ends (get_or ps a no_row))) where
    expected_grows : (i : Instruction) → Before (length box) j i → Inside (expected box i qs) (expected other i ps)
    expected_grows (Const c) b = record { low = omega (arith, ints); high = omega (arith, ints) }
    expected_grows (Knob n) b = let c = sub.sides n b in record { low = c.low; high = c.high }
    expected_grows (Add a c) b = nested2 _ _ hull_add _ _ _ _ (o a b.0) (o c b.1) (f a b.0) (f c b.1)
    expected_grows (Sub a c) b = nested2 _ _ hull_sub _ _ _ _ (o a b.0) (o c b.1) (f a b.0) (f c b.1)
    expected_grows (Mul a c) b = nested2 _ _ hull_mul _ _ _ _ (o a b.0) (o c b.1) (f a b.0) (f c b.1)
    expected_grows (Sqr a) b = nested1 _ _ hull_sqr _ _ (o a b) (f a b)
    expected_grows (Min a c) b = nested2 _ _ hull_min _ _ _ _ (o a b.0) (o c b.1) (f a b.0) (f c b.1)
    expected_grows (Shr a c) b = nested1 _ _ (hull_shr c) _ _ (o a b) (f a b)

  abbrev Q : List Row
  Q = registers k program box

  abbrev P : List Row
  P = registers plain_kind program other

  -- each row lies within the plain one over the other box
  pub row_inside : (j : ℕ) → j < length Q → j < length P → Inside (ends (get_or Q j no_row)) (ends (get_or P j no_row))
  row_inside = by_those_below (λ j. j < length Q → j < length P → Inside (ends (get_or Q j no_row)) (ends (get_or P j no_row))) (λ j below h g.
      let i = get_or program j no_instruction in
      let n = expected_grows j Q P (λ a q. in_order k L program box s w a (omega arith)) (λ a q. below a q (omega arith) (omega arith)) i (w j (below_length k L program box s w j h)) in
      let e = plain_expected other i P (get_or P j no_row) (reg_at plain_kind plain_lawful program other s' w' j g) in
      subst (Inside (ends (get_or Q j no_row))) (sym e) (inside_through _ _ _ (reg_answered k L program box s w j h).inside n))

  never : length P ≡ length program → length Q < length program → ⊥
  never e h =
      let j = length Q in
      let i = get_or program j no_instruction in
      let n = expected_grows j Q P (λ a q. in_order k L program box s w a q) (λ a q. row_inside a q (omega arith)) i (w j h) in
      let b = (reg_answered plain_kind plain_lawful program other s' w' j (omega arith)).bounded in
      let a = gives_answer k L box s i j Q (w j h) (λ a q. reg_valid k L program box s w a q) in
      subst (Answer k (expected box i Q) (Results k box i Q)) (fill_stops (gives k box) program no_instruction h) a (bounded_in _ _ n b)

  pub all_registers : length P ≡ length program → length Q ≡ length program
  all_registers e = let u = fill_upto (gives k box) program in let n : length Q < length program → ⊥ = never e in omega arith
