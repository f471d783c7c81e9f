-- Narrowing loses no numbers that fit the instructions.
use Rattle.std.specs.Prelude.{◌≡◌, ℕ, ◌<◌, List, length, ℤ, pos, ◌*ℤ◌, Some, None, Option, slice_index_or, slice_set, refl}
use Rattle.std.proofs.Common.{arith, sym, subst, length-set}
use Rattle.boxes.specs.Boxes.{Ends}
use Rattle.ranges.specs.declared.row.Row.{Row}
use Rattle.ranges.specs.Kind.{Holds, Keeper, Keeping, Kept, Kind, Lawful, Valid, ends}
use Rattle.inverses.specs.Inverses.{back_factor}
use Rattle.inverses.specs.InverseLaws.{InverseBoth, Known, Lies}
use Rattle.inverses.proofs.Factors.{factor_inverse}
use Rattle.inverses.proofs.Squares.{square_inverse}
use Rattle.inverses.proofs.Sums.{lesser_inverse, minuend_inverse, shifted_inverse, subtrahend_inverse, sum_inverse}
use Rattle.records.specs.declared.instruction.Instruction.{Instruction}
use Rattle.records.specs.declared.instruction.Instruction.TheVariants.{Const, Knob, Add, Sub, Mul, Sqr, Min, Shr}
use Rattle.jobs.specs.Registers.{no_row}
use Rattle.evaluation.specs.Judging.{taken}
use Rattle.cutters.specs.Cutting.{and_then}
use Rattle.forward_backward.specs.Operands.{Earlier, both, ends_at, first_ends, narrowed, narrowed_if, operands, placed, second_ends}
use Rattle.forward_backward.specs.Narrowing.{Holding, NarrowingKeeps, Obeys, StillHolding}
use Rattle.forward_backward.specs.Placing.{at_each}

-- what follows from known ends
known_map : (P Q : Ends → Type 0) (o : Option Ends) → ((e : Ends) → P e → Q e) → Known P o → Known Q o
known_map P Q None f p = tt
known_map P Q (Some e) f p = f e p

-- the number of the result, by the instruction
fitted : (z : Ends) (x y : ℤ) → x ≡ y → Lies z x → Lies z y
fitted z x y e l = subst (Lies z) e l

module _ (k : Kind) (L : Lawful k) (n : Keeper) (K : Keeping k n) (vs : List ℤ) where
  abbrev v : ℕ → ℤ
  v a = slice_index_or vs a (pos 0)

  -- a row of the kind is taken as itself
  taken_is : (rows : List Row) → Holding k vs rows → (a : ℕ) → a < length rows → taken k rows a ≡ slice_index_or rows a no_row
  taken_is rows h a l = L.back (slice_index_or rows a no_row) (h.valid a l)

  -- a register's number lies between the ends of its range
  pub number_lies : (rows : List Row) → Holding k vs rows → (a : ℕ) → a < length rows → Lies (ends_at k n rows a) (v a)
  number_lies rows h a l =
      let b = L.between (slice_index_or rows a no_row) (v a) (h.valid a l) (h.holds a l) in
      subst (λ r. Lies (ends r) (v a)) (sym (taken_is rows h a l)) (record { low = b.0; high = b.1 })

  -- another row in the place of a register, which holds its number too
  put_holding : (rows : List Row) (a : ℕ) (q : Row) → a < length rows → Holding k vs rows → Valid k q → Holds k q (v a) → Holding k vs (slice_set rows a q)
  put_holding rows a q l h w u =
      let m = length-set rows a q in
      record {
        valid = λ i b. at_each rows a i q no_row (λ _ r. Valid k r) l w (h.valid i (omega arith));
        holds = λ i b. at_each rows a i q no_row (λ j r. Holds k r (v j)) l u (h.holds i (omega arith));
      }

  kept_holding : (rows : List Row) (a : ℕ) (t : Row) (x y : ℤ) (o : Option Row) → Kept k t x y o → a < length rows → Holding k vs rows → Holds k t (v a) → Lies (record { lo = x; hi = y }) (v a) → StillHolding k vs (length rows) (placed rows a o)
  kept_holding rows a t x y None p l h u e = p (v a) u e.low e.high
  kept_holding rows a t x y (Some q) p l h u e = (length-set rows a q, put_holding rows a q l h p.valid (p.all (v a) u e.low e.high))

  -- a register kept between ends that its number lies between
  pub narrow_keeps : (rows : List Row) (a : ℕ) (e : Ends) → a < length rows → Holding k vs rows → Lies e (v a) → StillHolding k vs (length rows) (narrowed k n rows a e)
  narrow_keeps rows a e l h u =
      let t = taken_is rows h a l in
      let w : Valid k (taken k rows a) = subst (Valid k) (sym t) (h.valid a l) in
      kept_holding rows a (taken k rows a) e.lo e.hi (n.kept (taken k rows a) e.lo e.hi) (K (taken k rows a) e.lo e.hi w) l h
      (subst (λ r. Holds k r (v a)) (sym t) (h.holds a l)) u

  if_keeps : (rows : List Row) (a : ℕ) (o : Option Ends) → a < length rows → Holding k vs rows → Known (λ e. Lies e (v a)) o → StillHolding k vs (length rows) (narrowed_if k n rows a o)
  if_keeps rows a None l h u = (refl, h)
  if_keeps rows a (Some e) l h u = narrow_keeps rows a e l h u

  -- one step after another
  pub then_keeps : (m : ℕ) (o : Option (List Row)) (f : List Row → Option (List Row)) → StillHolding k vs m o → ((q : List Row) → length q ≡ m → Holding k vs q → StillHolding k vs m (f q)) → StillHolding k vs m (and_then o f)
  then_keeps m None f s g = s
  then_keeps m (Some q) f s g = g q s.0 s.1

  both_keeps : (i : Instruction) (j a b : ℕ) (rows : List Row) → j < length rows → a < length rows → b < length rows → Holding k vs rows →
      ((z x y : Ends) → Lies z (v j) → Lies x (v a) → Lies y (v b) → Known (λ e. Lies e (v a)) (first_ends i z x y)) →
      ((z x y : Ends) → Lies z (v j) → Lies x (v a) → Lies y (v b) → Known (λ e. Lies e (v b)) (second_ends i z x y)) →
      StillHolding k vs (length rows) (both k n i rows j a b)
  both_keeps i j a b rows lj la lb h first second =
      let z = number_lies rows h j lj in
      then_keeps (length rows) _ _
      (if_keeps rows a _ la h (first _ _ _ z (number_lies rows h a la) (number_lies rows h b lb)))
      (λ q e g.
      let ma : a < length q = omega arith in
      let mb : b < length q = omega arith in
      subst (λ m. StillHolding k vs m (narrowed_if k n q b (second_ends i (ends_at k n rows j) (ends_at k n q a) (ends_at k n q b)))) e
      (if_keeps q b _ mb g (second _ _ _ z (number_lies q g a ma) (number_lies q g b mb))))

  -- the operands of an instruction whose numbers fit it
  pub operands_keep : (knob : ℕ → ℤ) (i : Instruction) (j : ℕ) (rows : List Row) → Earlier j i → j < length rows → Obeys knob vs i j → Holding k vs rows → StillHolding k vs (length rows) (operands k n i j rows)
  operands_keep knob (Const c) j rows w l o h = (refl, h)
  operands_keep knob (Knob m) j rows w l o h = (refl, h)
  operands_keep knob (Add a b) j rows w l o h =
      let wa = w.0 in
      let wb = w.1 in
      both_keeps (Add a b) j a b rows l (omega arith) (omega arith) h
      (λ z x y lz lx ly. (sum_inverse z y _ refl).first (v b) ly (v a) (fitted z _ _ o lz))
      (λ z x y lz lx ly. (sum_inverse z x _ refl).second (v a) lx (v b) (fitted z _ _ o lz))
  operands_keep knob (Sub a b) j rows w l o h =
      let wa = w.0 in
      let wb = w.1 in
      both_keeps (Sub a b) j a b rows l (omega arith) (omega arith) h
      (λ z x y lz lx ly. minuend_inverse z y _ refl (v b) ly (v a) (fitted z _ _ o lz))
      (λ z x y lz lx ly. subtrahend_inverse z x _ refl (v a) lx (v b) (fitted z _ _ o lz))
  operands_keep knob (Mul a b) j rows w l o h =
      let wa = w.0 in
      let wb = w.1 in
      both_keeps (Mul a b) j a b rows l (omega arith) (omega arith) h
      (λ z x y lz lx ly. known_map (InverseBoth ◌*ℤ◌ z y) (λ e. Lies e (v a)) (back_factor z y) (λ e p. p.first (v b) ly (v a) (fitted z _ _ o lz)) (factor_inverse z y _ refl))
      (λ z x y lz lx ly. known_map (InverseBoth ◌*ℤ◌ z x) (λ e. Lies e (v b)) (back_factor z x) (λ e p. p.second (v a) lx (v b) (fitted z _ _ o lz)) (factor_inverse z x _ refl))
  operands_keep knob (Sqr a) j rows w l o h =
      both_keeps (Sqr a) j a a rows l (omega arith) (omega arith) h
      (λ z x y lz lx ly. square_inverse z x _ refl (v a) lx (fitted z _ _ o lz))
      (λ z x y lz lx ly. tt)
  operands_keep knob (Min a b) j rows w l o h =
      let wa = w.0 in
      let wb = w.1 in
      both_keeps (Min a b) j a b rows l (omega arith) (omega arith) h
      (λ z x y lz lx ly. (lesser_inverse z x y _ refl).first (v b) ly (v a) lx (fitted z _ _ o lz))
      (λ z x y lz lx ly. (lesser_inverse z y x _ refl).second (v a) lx (v b) ly (fitted z _ _ o lz))
  operands_keep knob (Shr a b) j rows w l o h =
      both_keeps (Shr a b) j a a rows l (omega arith) (omega arith) h
      (λ z x y lz lx ly. shifted_inverse b z _ refl (v a) (fitted z _ _ o lz))
      (λ z x y lz lx ly. tt)

pub narrowing_keeps : NarrowingKeeps
narrowing_keeps k L n K knob vs i j rows w l o h = operands_keep k L n K vs knob i j rows w l o h
