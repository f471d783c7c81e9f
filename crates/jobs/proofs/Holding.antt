-- The rows of the registers over a box hold the registers' values at its settings, by any lawful kind of range.
use Rattle.std.proofs.Common.{◌≡◌, ℕ, ◌<◌, List, ◌++◌, length, get_or, take, ℤ, pos, ◌+ℤ◌, ◌-ℤ◌, ◌*ℤ◌, Some, None, Option, sym, refl, ap, ◌∙◌, subst, arith}
use Rattle.std.proofs.lemmas.List.{get_or_append_left, get_or-map, get_or-take, length-map}
use Rattle.std.proofs.lemmas.Int.{ints}
use Rattle.std.specs.Int.{int_min}
use Rattle.whole.specs.Laws.{Amid}
use Rattle.tables.specs.Tables.{entries}
use Rattle.boxes.specs.Boxes.{Ends, In, nought}
use Rattle.boxes.specs.Views.{ends_of, sides_of}
use Rattle.boxes.specs.declared.region.Region.{Region}
use Rattle.boxes.proofs.Counting.{zero_side}
use Rattle.ranges.specs.declared.row.Row.{Row}
use Rattle.ranges.specs.Bounds.{Bounded, Ordered, point}
use Rattle.ranges.specs.Hulls.{shifted, square}
use Rattle.ranges.specs.Kind.{Kind, Lawful, Valid, Holds, Answer, Answered, OfOne, OfTwo, Spans, Constant}
use Rattle.records.specs.declared.instruction.Instruction.{Instruction}
use Rattle.records.specs.declared.instruction.Instruction.TheVariants.{Const, Knob, Add, Sub, Mul, Sqr, Min, Shr}
use Rattle.jobs.specs.Registers.{Before, Wired, expected, no_instruction, gives, no_row, registers, value, values}
use Rattle.jobs.specs.Meaning.{RowsHold, knob_at, register}
use Rattle.jobs.proofs.Fills.{fill_at, fill_upto}
use Rattle.jobs.proofs.Values.{by_those_below, values_at}

-- each side of the box is in order and within the bound
abbrev pub Sided : List Ends → Type 0
Sided box = (n : ℕ) → n < length box → Ordered (get_or box n nought)

-- the results of an instruction from held operands
abbrev pub Results : Kind → List Ends → Instruction → List Row → ℤ → Type 0
Results k box (Const c) qs z = z ≡ c
Results k box (Knob n) qs z = Amid (get_or box n nought).lo z (get_or box n nought).hi
Results k box (Add a b) qs z = OfTwo k ◌+ℤ◌ (get_or qs a no_row) (get_or qs b no_row) z
Results k box (Sub a b) qs z = OfTwo k ◌-ℤ◌ (get_or qs a no_row) (get_or qs b no_row) z
Results k box (Mul a b) qs z = OfTwo k ◌*ℤ◌ (get_or qs a no_row) (get_or qs b no_row) z
Results k box (Sqr a) qs z = OfOne k square (get_or qs a no_row) z
Results k box (Min a b) qs z = OfTwo k int_min (get_or qs a no_row) (get_or qs b no_row) z
Results k box (Shr a b) qs z = OfOne k (shifted b) (get_or qs a no_row) z

spans_answered : (k : Kind) (e : Ends) (r : Row) (R : ℤ → Type 0) → Bounded e → Spans k e r → ((z : ℤ) → R z → Amid e.lo z e.hi) → Answered k e R r
spans_answered k e r R b s f =
    let l : r.low ≡ e.lo = ap (λ x. x.lo) s.same in
    let h : r.high ≡ e.hi = ap (λ x. x.hi) s.same in
    record {
      valid = s.valid;
      inside = record { low = omega (arith, ints); high = omega (arith, ints) };
      bounded = b;
      holds = λ z q. s.holds z (f z q).low (f z q).high;
    }

constant_answer : (k : Kind) (c : ℤ) (o : Option Row) → Constant k c o → Answer k (point c) (λ z. z ≡ c) o
constant_answer k c None n = n
constant_answer k c (Some r) s = spans_answered k (point c) r (λ z. z ≡ c) s.0 s.1 (λ z e. record { low = omega (arith, ints); high = omega (arith, ints) })

pub gives_answer : (k : Kind) → Lawful k → (box : List Ends) → Sided box → (i : Instruction) (j : ℕ) (qs : List Row) → Before (length box) j i → ((a : ℕ) → a < j → Valid k (get_or qs a no_row)) → Answer k (expected box i qs) (Results k box i qs) (gives k box i qs)
gives_answer k L box s (Const c) j qs w v = constant_answer k c (k.constant c) (L.constants c)
gives_answer k L box s (Knob n) j qs w v =
    let e = get_or box n nought in
    let o = s n w in
    spans_answered k e (k.side e.lo e.hi) (λ z. Amid e.lo z e.hi) (record { above = o.above; below = o.below }) (L.sides e.lo e.hi o) (λ z q. q)
gives_answer k L box s (Add a b) j qs w v = L.sums _ _ (v a w.0) (v b w.1)
gives_answer k L box s (Sub a b) j qs w v = L.differences _ _ (v a w.0) (v b w.1)
gives_answer k L box s (Mul a b) j qs w v = L.products _ _ (v a w.0) (v b w.1)
gives_answer k L box s (Sqr a) j qs w v = L.squares _ (v a w)
gives_answer k L box s (Min a b) j qs w v = L.minima _ _ (v a w.0) (v b w.1)
gives_answer k L box s (Shr a b) j qs w v = L.shifts b _ (v a w)

-- an instruction reads only the registers before it
module _ (k : Kind) (box : List Ends) (n j : ℕ) (qs : List Row) where
  two_taken : (f : Row → Row → Option Row) (a b : ℕ) → (a < j) × (b < j) → f (get_or (take j qs) a no_row) (get_or (take j qs) b no_row) ≡ f (get_or qs a no_row) (get_or qs b no_row)
  two_taken f a b w = let p = get_or-take j qs a no_row w.0 in let q = get_or-take j qs b no_row w.1 in (λ t. f (p t) (q t))

  gives_taken : (i : Instruction) → Before n j i → gives k box i (take j qs) ≡ gives k box i qs
  gives_taken (Const c) w = refl
  gives_taken (Knob m) w = refl
  gives_taken (Add a b) w = two_taken k.add a b w
  gives_taken (Sub a b) w = two_taken k.sub a b w
  gives_taken (Mul a b) w = two_taken k.mul a b w
  gives_taken (Sqr a) w = ap k.sqr (get_or-take j qs a no_row w)
  gives_taken (Min a b) w = two_taken k.least a b w
  gives_taken (Shr a b) w = ap (k.shift b) (get_or-take j qs a no_row w)

module _ (k : Kind) (L : Lawful k) (program : List Instruction) (box : List Ends) (sided : Sided box) (w : Wired (length box) program) where
  abbrev Reg : List Row
  Reg = registers k program box

  pub below_length : (j : ℕ) → j < length Reg → j < length program
  below_length j h = let u = fill_upto (gives k box) program in omega arith

  -- each row is its instruction's answer
  pub reg_at : (j : ℕ) → j < length Reg → Some (get_or Reg j no_row) ≡ gives k box (get_or program j no_instruction) Reg
  reg_at j h = fill_at (gives k box) program no_instruction no_row j h ∙ gives_taken k box (length box) j Reg (get_or program j no_instruction) (w j (below_length j h))

  pub reg_answered : (j : ℕ) → j < length Reg → Answered k (expected box (get_or program j no_instruction) Reg) (Results k box (get_or program j no_instruction) Reg) (get_or Reg j no_row)
  reg_answered = by_those_below (λ j. j < length Reg → Answered k (expected box (get_or program j no_instruction) Reg) (Results k box (get_or program j no_instruction) Reg) (get_or Reg j no_row)) (λ j below h.
      let i = get_or program j no_instruction in
      subst (Answer k (expected box i Reg) (Results k box i Reg)) (sym (reg_at j h)) (gives_answer k L box sided i j Reg (w j (below_length j h)) (λ a q. (below a q (omega arith)).valid)))

  pub reg_valid : (j : ℕ) → j < length Reg → Valid k (get_or Reg j no_row)
  reg_valid j h = (reg_answered j h).valid

  module _ (s : List ℤ) (inside : In box s) where
    abbrev Val : List ℤ
    Val = values program (knob_at s)

    two_result : (f : ℤ → ℤ → ℤ) (j a b : ℕ) → (a < j) × (b < j) → ((a : ℕ) → a < j → Holds k (get_or Reg a no_row) (get_or Val a (pos 0))) → OfTwo k f (get_or Reg a no_row) (get_or Reg b no_row) (f (get_or Val a (pos 0)) (get_or Val b (pos 0)))
    two_result f j a b e h = record { x = get_or Val a (pos 0); y = get_or Val b (pos 0); in_a = h a e.0; in_b = h b e.1; is = refl }

    value_result : (i : Instruction) (j : ℕ) → Before (length box) j i → ((a : ℕ) → a < j → Holds k (get_or Reg a no_row) (get_or Val a (pos 0))) → Results k box i Reg (value (knob_at s) i Val)
    value_result (Const c) j b f = refl
    value_result (Knob n) j b f = record { low = inside.from n b; high = inside.to n b }
    value_result (Add a c) j b f = two_result ◌+ℤ◌ j a c b f
    value_result (Sub a c) j b f = two_result ◌-ℤ◌ j a c b f
    value_result (Mul a c) j b f = two_result ◌*ℤ◌ j a c b f
    value_result (Sqr a) j b f = record { x = get_or Val a (pos 0); in_a = f a b; is = refl }
    value_result (Min a c) j b f = two_result int_min j a c b f
    value_result (Shr a c) j b f = record { x = get_or Val a (pos 0); in_a = f a b; is = refl }

    pub reg_holds : (j : ℕ) → j < length Reg → Holds k (get_or Reg j no_row) (get_or Val j (pos 0))
    reg_holds = by_those_below (λ j. j < length Reg → Holds k (get_or Reg j no_row) (get_or Val j (pos 0))) (λ j below h.
        let b = w j (below_length j h) in
        let e = values_at program (knob_at s) (length box) w j (below_length j h) in
        subst (λ z. Holds k (get_or Reg j no_row) z) (sym e) ((reg_answered j h).holds (value (knob_at s) (get_or program j no_instruction) Val) (value_result (get_or program j no_instruction) j b (λ a q. below a q (omega arith)))))

  -- and so do the rows that begin with these
  pub rows_hold : (n : ℕ) (rows rest : List Row) → n ≡ length Reg → rows ≡ Reg ++ rest → RowsHold k program box n rows
  rows_hold n rows rest e q s inside j h =
      let l : j < length Reg = omega arith in
      let g : get_or rows j no_row ≡ get_or Reg j no_row = ap (λ x. get_or x j no_row) q ∙ get_or_append_left Reg rest no_row j l in
      subst (λ r. Holds k r (register program s j)) (sym g) (reg_holds s inside j l)

-- the sides of a region are in order and within the bound
pub region_sided : (r : Region) → Sided (sides_of r)
region_sided r n h =
    let xs = entries r.sides in
    let l : n < length xs = omega (arith, length-map xs ends_of) in
    let x = get_or xs n zero_side in
    rw (get_or-map ends_of xs n zero_side nought l) (record { above = omega (arith, ints, x.above); order = x.order; below = omega (arith, ints, x.below) })
