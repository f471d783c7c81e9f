-- What forward-backward leaves keeps every rule of cutters.
use Rattle.std.specs.Prelude.{◌≡◌, ℕ, zero, suc, ◌<◌, ◌≤◌, List, [], ◌∷◌, length, get_or, ℤ, pos, Some, None, Option, slice_index_or, refl}
use Rattle.std.proofs.Common.{arith, sym, subst, ◌∙◌}
use Rattle.std.proofs.lemmas.Int.{ints}
use Rattle.std.proofs.lemmas.Bool.{cond_both}
use Rattle.boxes.specs.Boxes.{Ends, In, nested, nought}
use Rattle.boxes.proofs.Goods.{good_in}
use Rattle.boxes.proofs.Nesting.{Nested, nested_in, nested_part}
use Rattle.ranges.specs.declared.row.Row.{Row}
use Rattle.ranges.specs.Kind.{Keeper, Keeping, Kind, Lawful as LawfulKind}
use Rattle.inverses.specs.InverseLaws.{Lies}
use Rattle.records.specs.declared.instruction.Instruction.{Instruction}
use Rattle.records.specs.declared.target.Target.{Target}
use Rattle.records.specs.Rules.{Content, good_target, no_target}
use Rattle.records.proofs.Runs.{every_at}
use Rattle.jobs.specs.Meaning.{MayLock, knob_at}
use Rattle.jobs.specs.Reading.{Sound}
use Rattle.jobs.specs.Registers.{Wired, no_instruction, registers, values}
use Rattle.jobs.proofs.Bounding.{sided}
use Rattle.jobs.proofs.Holding.{Sided, reg_holds, reg_valid}
use Rattle.jobs.proofs.Values.{values_at}
use Rattle.jobs.proofs.Wiring.{wired}
use Rattle.evaluation.proofs.Aiming.{aimed_by}
use Rattle.evaluation.proofs.Growing.{all_registers}
use Rattle.cutters.specs.Cutting.{Lawful, LeftIn, Proper, StillIn, and_then}
use Rattle.cutters.specs.Lawfulness.{left_through}
use Rattle.forward_backward.specs.Operands.{aimed, ends_at, narrowed, operands}
use Rattle.forward_backward.specs.Backward.{KnobOf, State, backward, beside, box_of, forward_backward, narrowed_box, side_cut, turned}
use Rattle.forward_backward.specs.Narrowing.{Holding, Obeys, StillHolding}
use Rattle.forward_backward.specs.Boxes.{cut_inside, knob_keeps}
use Rattle.forward_backward.specs.Keeping.{narrow_keeps, number_lies, operands_keep, then_keeps}
use Rattle.forward_backward.specs.Turns.{AsLong, earlier, knob_of, side_cut_by, turned_long}

-- a box of knobs' sides has sides in order and within the bound
proper_sided : (box : List Ends) → Proper box → Sided box
proper_sided box p n h =
    let k = good_in (slice_index_or box n nought) (p.sides n h) in
    record { above = omega (arith, ints); order = k.order; below = omega (arith, ints) }

beside_inside : (box : List Ends) (o : Option (List Row)) (q : Option (List Ends)) → LeftIn box q → LeftIn box (box_of (beside o q))
beside_inside box None q l = tt
beside_inside box (Some rows) None l = tt
beside_inside box (Some rows) (Some b) l = l

-- a box as it is left by one instruction, and then by those before it
then_inside : (box : List Ends) (o : Option State) (f : State → Option State) → LeftIn box (box_of o) → AsLong box (box_of o) →
    ((s : State) → Proper s.box → length s.box ≡ length box → LeftIn s.box (box_of (f s))) → LeftIn box (box_of (and_then o f))
then_inside box None f l e g = tt
then_inside box (Some s) f l e g = left_through s.box box (box_of (f s)) l.1 (g s l.0 e)

-- something is left, each row holds its register's number, and the box the setting
abbrev StillThere : Kind → List ℤ → ℕ → List ℤ → Option State → Type 0
StillThere k vs m setting None = ⊥
StillThere k vs m setting (Some s) = (length s.rows ≡ m) × Holding k vs s.rows × In s.box setting

beside_there : (k : Kind) (vs : List ℤ) (m : ℕ) (setting : List ℤ) (o : Option (List Row)) (q : Option (List Ends)) → StillHolding k vs m o → StillIn setting q → StillThere k vs m setting (beside o q)
beside_there k vs m setting None q h i = h
beside_there k vs m setting (Some rows) None h i = i
beside_there k vs m setting (Some rows) (Some b) h i = (h.0, h.1, i)

box_there : (k : Kind) (vs : List ℤ) (m : ℕ) (setting : List ℤ) (o : Option State) → StillThere k vs m setting o → StillIn setting (box_of o)
box_there k vs m setting None h = h
box_there k vs m setting (Some s) h = h.2

-- the knob of an instruction reads the register's number
cut_keeps : (setting vs : List ℤ) (i : Instruction) (j : ℕ) (z : Ends) (box : List Ends) → Proper box → KnobOf (length box) i → In box setting → Obeys (knob_at setting) vs i j → Lies z (slice_index_or vs j (pos 0)) → StillIn setting (side_cut i z box)
cut_keeps setting vs i j z box p w s o u =
    side_cut_by z box (λ i q. KnobOf (length box) i → Obeys (knob_at setting) vs i j → StillIn setting q) (λ _ _ _. s) (λ m l e. knob_keeps box p m l z setting s (subst (Lies z) e u)) i w o

-- rows, box and setting as one instruction leaves them, and then those before it
then_there : (k : Kind) (vs : List ℤ) (m : ℕ) (setting : List ℤ) (box : List Ends) (o : Option State) (f : State → Option State) → StillThere k vs m setting o → LeftIn box (box_of o) → AsLong box (box_of o) →
    ((s : State) → Proper s.box → length s.box ≡ length box → StillThere k vs m setting (Some s) → StillThere k vs m setting (f s)) → StillThere k vs m setting (and_then o f)
then_there k vs m setting box None f h l e g = h
then_there k vs m setting box (Some s) f h l e g = g s l.0 e h

module _ (k : Kind) (n : Keeper) (program : List Instruction) (knobs : ℕ) (w : Wired knobs program) where
  abbrev at : ℕ → Instruction
  at j = slice_index_or program j no_instruction

  knob_here : (j : ℕ) (box : List Ends) → j < length program → length box ≡ knobs → KnobOf (length box) (at j)
  knob_here j box h e = subst (λ m. KnobOf m (at j)) (sym e) (knob_of knobs j (at j) (w j h))

  turned_inside : (j : ℕ) (s : State) → j < length program → Proper s.box → length s.box ≡ knobs → LeftIn s.box (box_of (turned k n (at j) j s))
  turned_inside j s h p e = beside_inside s.box (operands k n (at j) j s.rows) (side_cut (at j) (ends_at k n s.rows j) s.box) (cut_inside (at j) (ends_at k n s.rows j) s.box p (knob_here j s.box h e))

  -- going backward leaves a box within the box
  backward_inside : (j : ℕ) → j ≤ length program → (s : State) → Proper s.box → length s.box ≡ knobs → LeftIn s.box (box_of (backward k n program j s))
  unfolding backward
  backward_inside zero h s p e = (p, λ setting i. i)
  backward_inside (suc j) h s p e =
      then_inside s.box (turned k n (at j) j s) (backward k n program j) (turned_inside j s (omega arith) p e) (turned_long k n (at j) j s)
      (λ t q l. backward_inside j (omega arith) t q (l ∙ e))

  module _ (L : LawfulKind k) (K : Keeping k n) (setting vs : List ℤ) (m : ℕ) (fit : (j : ℕ) → j < length program → Obeys (knob_at setting) vs (at j) j) (long : length program ≡ m) where
    turned_keeps : (j : ℕ) (s : State) → j < length program → Proper s.box → length s.box ≡ knobs → StillThere k vs m setting (Some s) → StillThere k vs m setting (turned k n (at j) j s)
    turned_keeps j s h p e t =
        let r = t.0 in
        let l : j < length s.rows = omega arith in
        beside_there k vs m setting (operands k n (at j) j s.rows) (side_cut (at j) (ends_at k n s.rows j) s.box)
        (subst (λ x. StillHolding k vs x (operands k n (at j) j s.rows)) r (operands_keep k L n K vs (knob_at setting) (at j) j s.rows (earlier knobs j (at j) (w j h)) l (fit j h) t.1))
        (cut_keeps setting vs (at j) j (ends_at k n s.rows j) s.box p (knob_here j s.box h e) t.2 (fit j h) (number_lies k L n K vs s.rows t.1 j l))

    -- and loses neither the registers' numbers nor the setting
    backward_keeps : (j : ℕ) → j ≤ length program → (s : State) → Proper s.box → length s.box ≡ knobs → StillThere k vs m setting (Some s) → StillThere k vs m setting (backward k n program j s)
    unfolding backward
    backward_keeps zero h s p e t = t
    backward_keeps (suc j) h s p e t =
        then_there k vs m setting s.box (turned k n (at j) j s) (backward k n program j) (turned_keeps j s (omega arith) p e t) (turned_inside j s (omega arith) p e) (turned_long k n (at j) j s)
        (λ u q l v. backward_keeps j (omega arith) u q (l ∙ e) v)

-- targets that the numbers hit lose none of them
aimed_keeps : (k : Kind) (L : LawfulKind k) (n : Keeper) (K : Keeping k n) (vs : List ℤ) (m : ℕ) (targets : List Target) →
    ((i : ℕ) → i < length targets → ((get_or targets i no_target).register < m) × Lies (record { lo = (get_or targets i no_target).low; hi = (get_or targets i no_target).high }) (slice_index_or vs (get_or targets i no_target).register (pos 0))) →
    (rows : List Row) → length rows ≡ m → Holding k vs rows → StillHolding k vs m (aimed k n targets rows)
aimed_keeps k L n K vs m [] f rows e h = (e, h)
aimed_keeps k L n K vs m (t ∷ targets) f rows e h =
    let a = f 0 (omega arith) in
    let r = a.0 in
    let s = narrow_keeps k L n K vs rows t.register (record { lo = t.low; hi = t.high }) (omega arith) h a.1 in
    let o = narrowed k n rows t.register (record { lo = t.low; hi = t.high }) in
    then_keeps k L n K vs m o (aimed k n targets) (subst (λ x. StillHolding k vs x o) e s)
    (λ q l g. aimed_keeps k L n K vs m targets (λ i b. f (suc i) (omega arith)) q l g)

rows_inside : (box : List Ends) → Proper box → (o : Option (List Row)) (f : List Row → Option (List Ends)) → ((rows : List Row) → LeftIn box (f rows)) → LeftIn box (and_then o f)
rows_inside box p None f g = tt
rows_inside box p (Some rows) f g = g rows

rows_keep : (k : Kind) (vs : List ℤ) (m : ℕ) (setting : List ℤ) (o : Option (List Row)) (f : List Row → Option (List Ends)) → StillHolding k vs m o → ((rows : List Row) → length rows ≡ m → Holding k vs rows → StillIn setting (f rows)) → StillIn setting (and_then o f)
rows_keep k vs m setting None f h g = h
rows_keep k vs m setting (Some rows) f h g = g rows h.0 h.1

module _ (k : Kind) (L : LawfulKind k) (n : Keeper) (K : Keeping k n) (c : Content) (sound : Sound c) (box : List Ends) (p : Proper box) (inside : Nested box c.sides) where
  w : Wired (length c.sides) c.program
  w = wired (length c.sides) c.program sound.fields.programmed

  w' : Wired (length box) c.program
  w' = subst (λ m. Wired m c.program) (sym inside.knobs) w

  abbrev Q : List Row
  Q = registers k c.program box

  all : length Q ≡ length c.program
  all = all_registers k L c.program box c.sides (proper_sided box p) (sided c sound.fields) w' inside sound.bounded

  box_inside : LeftIn box (narrowed_box k n c box Q)
  box_inside = rows_inside box p (aimed k n c.targets Q) _ (λ rows. backward_inside k n c.program (length c.sides) w (length c.program) (omega arith) (record { rows = rows; box = box }) p inside.knobs)

  box_keeps : (setting : List ℤ) → In box setting → MayLock c setting → StillIn setting (narrowed_box k n c box Q)
  box_keeps setting i meets =
      let vs = values c.program (knob_at setting) in
      let m = length c.program in
      let g = all in
      let fit : (j : ℕ) → j < m → Obeys (knob_at setting) vs (slice_index_or c.program j no_instruction) j = values_at c.program (knob_at setting) (length c.sides) w in
      let hold : Holding k vs Q = record {
        valid = λ a l. reg_valid k L c.program box (proper_sided box p) w' a l;
        holds = λ a l. reg_holds k L c.program box (proper_sided box p) w' setting i a l;
      } in
      rows_keep k vs m setting (aimed k n c.targets Q) _
      (aimed_keeps k L n K vs m c.targets (λ a l.
      let t = meets a l in (
        (aimed_by m (slice_index_or c.targets a no_target) (every_at (λ _ x. good_target m x) 0 c.targets no_target sound.fields.aimed a l)).there,
        record { low = t.from; high = t.to },
      )) Q g hold)
      (λ rows e h. box_there k vs m setting (backward k n c.program m (record { rows = rows; box = box }))
      (backward_keeps k n c.program (length c.sides) w L K setting vs m fit refl m (omega arith) (record { rows = rows; box = box }) p inside.knobs (e, h, i)))

-- what forward-backward leaves, for every narrowing kind
pub forward_backward_lawful : (k : Kind) → LawfulKind k → (n : Keeper) → Keeping k n → Lawful (forward_backward k n)
forward_backward_lawful k L n K = record {
  inside = λ c box s p. cond_both (nested box c.sides) (narrowed_box k n c box (registers k c.program box)) (Some box) (LeftIn box)
      (λ t. box_inside k L n K c s box p (nested_in box c.sides t))
      (λ _. (p, λ setting i. i));
  keeps = λ c box s p setting i m. cond_both (nested box c.sides) (narrowed_box k n c box (registers k c.program box)) (Some box) (StillIn setting)
      (λ t. box_keeps k L n K c s box p (nested_in box c.sides t) setting i m)
      (λ _. i);
  elsewhere = λ c box d. cond_both (nested box c.sides) (narrowed_box k n c box (registers k c.program box)) (Some box) (λ o. o ≡ Some box)
      (λ t. absurd (d (nested_part box c.sides (nested_in box c.sides t))))
      (λ _. refl);
}
