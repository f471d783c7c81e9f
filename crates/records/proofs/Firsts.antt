-- The refusal that reading tells is the broken rule that is looked at first.
use Rattle.std.proofs.Common.{◌≡◌, ℕ, suc, ◌+◌, ◌<◌, ◌≤◌, min, Bool, false, not, eqb, ltb, leb, ◌⊎◌, List, [], ◌∷◌, length, pos, negsuc, Decides, Result, refl, inl, inr, arith}
use Rattle.std.proofs.lemmas.Bool.{not-true, not_from_false, leb-true, le-leb}
use Rattle.std.proofs.lemmas.Bool.Decides.{Decides-eqb, Decides-ltb, Decides-not, Decides-or, Decides-like}
use Rattle.boxes.specs.Boxes.{between}
use Rattle.records.specs.declared.reason.Reason.TheVariants.{BadLength, BadVersion, BadShape, BadInstruction, BadField}
use Rattle.records.specs.declared.reason.Refusal.{Refusal}
use Rattle.records.specs.declared.fields.Fields.{Fields}
use Rattle.records.specs.Numbers.{byte, nat16, nat32, int16, int32}
use Rattle.records.specs.Places.{version_place, knobs_place, limit_place, sides_start, program_place, program_start, targets_place, targets_start}
use Rattle.records.specs.Rules.{bound, bounded}
use Rattle.records.specs.Faults.{when, first, mapped}
use Rattle.records.specs.Entries.{a_values, b_values, reached, side_faults, instruction_faults, target_faults}
use Rattle.records.specs.Layouts.{knobs_in, instructions_in, targets_in, counts_in, ends_at, head_fault, count_fault, size_fault, layout_fault}
use Rattle.records.specs.Verdicts.{limit_fault, field_fault, fault, content_in, verdict, content}
use Rattle.records.specs.Broken.{at, stage, Earlier, Count, knobs, instructions, targets, side_place, instruction_place, target_place, Broken, short, miscounted, version, count_past_end, count_out, cut_off, left_over, limit, side_low, side_high, operation, field_a, field_b, field_c, register, target_low, target_high, Told}
use Rattle.records.proofs.Ranks.{Least, One, Or, Any, Ranked, later_stage, one_stage, told_of, least_when, least_last, least_map, least_then, least_or, within_one, ranked_when, ranked_from, least_twice, ranked_last, ranked_then, ranked_or, ranked_of}

decides_leb : (a b : ℕ) → Decides (leb a b) (a ≤ b)
decides_leb a b = (leb-true a b, le-leb a b)

decides_fails : (b : Bool) → Decides (not b) (b ≡ false)
decides_fails b = (not-true b, not_from_false b)

-- a test decides the same beside what holds
decides_beside : {X : Type 0} (b : Bool) (Y : Type 0) → Y → Decides b X → Decides b (Y × X)
decides_beside b Y y t = Decides-like b (λ x. (y, x)) (λ x. x.1) t

module _ (s : List ℕ) where
  -- the head
  abbrev Short : Refusal → Type 0
  Short = One (length s < 5) BadLength (length s)

  abbrev Miscounted : Refusal → Type 0
  Miscounted = One ((5 ≤ length s) × (nat32 s 0 + 4 ≡ length s → ⊥)) BadLength 0

  abbrev Version : Refusal → Type 0
  Version = One (byte s version_place ≡ 1 → ⊥) BadVersion version_place

  abbrev Head : Refusal → Type 0
  Head = Or Short (Or Miscounted Version)

  head_stage : (e : Refusal) → Head e → stage e.reason ≤ 2
  head_stage e (inl x) = rw x.1 (omega arith)
  head_stage e (inr (inl x)) = rw x.1 (omega arith)
  head_stage e (inr (inr x)) = rw x.1 (omega arith)

  past_short : (d e : Refusal) → Short d → Or Miscounted Version e → Earlier e d → ⊥
  past_short d e x (inl y) = λ _. omega (arith, x.0, y.0.0)
  past_short d e x (inr y) = later_stage d e (omega (arith, one_stage _ BadLength _ d x, one_stage _ BadVersion _ e y))

  miscount : ((e : Refusal) → Short e → ⊥) → Decides (not (eqb (nat32 s 0 + 4) (length s))) ((5 ≤ length s) × (nat32 s 0 + 4 ≡ length s → ⊥))
  miscount n =
      let h : length s < 5 → ⊥ = λ l. n (at BadLength (length s)) (l, refl) in
      decides_beside _ (5 ≤ length s) (omega arith) (Decides-not _ (Decides-eqb (nat32 s 0 + 4) (length s)))

  head_least : Least Head (head_fault s)
  head_least =
      least_then Short (Or Miscounted Version) (when (ltb (length s) 5) BadLength (length s)) _
      (least_when _ _ BadLength (length s) (Decides-ltb (length s) 5))
      (λ n. least_or Miscounted Version (when (not (eqb (nat32 s 0 + 4) (length s))) BadLength 0) _
      (least_when _ _ BadLength 0 (miscount n))
      (least_last Version (when (not (eqb (byte s version_place) 1)) BadVersion version_place) (least_when _ _ BadVersion version_place (Decides-not _ (Decides-eqb (byte s version_place) 1))))
      (λ d e x y. later_stage d e (omega (arith, one_stage _ BadLength _ d x, one_stage _ BadVersion _ e y))))
      past_short

  -- a count, and the size: each is told at the record's end where its own place lies past that
  abbrev Miscount : ℕ → ℕ → Refusal → Type 0
  Miscount p most = Or (One (length s ≤ p) BadShape (length s)) (One ((p < length s) × ((byte s p ≡ 0) ⊎ (most < byte s p))) BadShape p)

  count_ranked : (p most : ℕ) → Ranked 3 (min (length s) p) (min (length s) p) (Miscount p most) (count_fault s p most)
  count_ranked p most =
      let m = min (length s) p in
      ranked_then (first (when (eqb (byte s p) 0) BadShape p ∷ when (ltb most (byte s p)) BadShape p ∷ []))
      (ranked_when _ _ BadShape (length s) m m (omega arith) (λ h. (omega arith, omega arith)) (decides_leb (length s) p))
      (within_one _ BadShape p m m (omega arith) (λ h. (omega (arith, h.0), omega (arith, h.0))))
      (omega arith)
      (λ n. let h : length s ≤ p → ⊥ = λ l. n (at BadShape (length s)) (l, refl) in
      least_twice (eqb (byte s p) 0) (ltb most (byte s p)) _ BadShape p
      (decides_beside _ (p < length s) (omega arith) (Decides-or _ _ (Decides-eqb (byte s p) 0) (Decides-ltb most (byte s p)))))

  abbrev Missized : ℕ → Refusal → Type 0
  Missized end = Or (One (length s < end) BadShape (length s)) (One (end < length s) BadShape end)

  size_ranked : (end : ℕ) → Ranked 3 (min (length s) end) (min (length s) end) (Missized end) (size_fault s end)
  size_ranked end =
      let m = min (length s) end in
      ranked_or
      (ranked_when _ _ BadShape (length s) m m (omega arith) (λ h. (omega arith, omega arith)) (Decides-ltb (length s) end))
      (ranked_last _ (ranked_when _ _ BadShape end m m (omega arith) (λ h. (omega arith, omega arith)) (Decides-ltb end (length s))))
      (omega arith)

  -- the counts and the size, from the front
  abbrev Shape : Refusal → Type 0
  Shape =
      Or (Miscount knobs_place 4)
      (Or (Miscount (program_place (knobs_in s)) 64)
      (Or (Miscount (targets_place (knobs_in s) (instructions_in s)) 8) (Missized (ends_at (counts_in s)))))

  shape_ranked : Ranked 3 (min (length s) knobs_place) (min (length s) (ends_at (counts_in s))) Shape
      (first (count_fault s knobs_place 4
      ∷ count_fault s (program_place (knobs_in s)) 64
      ∷ count_fault s (targets_place (knobs_in s) (instructions_in s)) 8
      ∷ size_fault s (ends_at (counts_in s))
      ∷ []))
  shape_ranked =
      ranked_or (count_ranked knobs_place 4)
      (ranked_or (count_ranked (program_place (knobs_in s)) 64)
      (ranked_or (count_ranked (targets_place (knobs_in s) (instructions_in s)) 8)
      (ranked_last (size_fault s (ends_at (counts_in s))) (size_ranked (ends_at (counts_in s))))
      (omega arith)) (omega arith)) (omega arith)

  -- the limit
  abbrev Limit : Refusal → Type 0
  Limit = One ((nat16 s limit_place ≡ 0) ⊎ (32768 < nat16 s limit_place)) BadField limit_place

  limit_ranked : Ranked 4 limit_place limit_place Limit (limit_fault s)
  limit_ranked = record {
    within = within_one _ BadField limit_place limit_place limit_place (omega arith) (λ _. (omega arith, omega arith));
    least = least_twice (eqb (nat16 s limit_place) 0) (ltb 32768 (nat16 s limit_place)) _ BadField limit_place (Decides-or _ _ (Decides-eqb (nat16 s limit_place) 0) (Decides-ltb 32768 (nat16 s limit_place)));
  }

  -- an entry of each table
  abbrev Side : ℕ → Refusal → Type 0
  Side k =
      let p = side_place k in
      Or (One (between (negsuc 16383) (int16 s p) (pos 16383) ≡ false) BadField p)
      (One (between (int16 s p) (int16 s (p + 2)) (pos 16383) ≡ false) BadField (p + 2))

  side_ranked : (k : ℕ) → Ranked 4 (side_place k) (side_place (suc k)) (Side k) (side_faults s sides_start k)
  side_ranked k =
      let p = side_place k in
      ranked_or
      (ranked_from _ _ BadField p p (omega arith) (decides_fails (between (negsuc 16383) (int16 s p) (pos 16383))))
      (ranked_last _ (ranked_from _ _ BadField (p + 2) (side_place (suc k)) (omega arith) (decides_fails (between (int16 s p) (int16 s (p + 2)) (pos 16383)))))
      (omega arith)

  abbrev Row : ℕ → Refusal → Type 0
  Row k =
      let p = instruction_place s k in
      Or (One (7 < byte s p) BadInstruction p)
      (Or (One (a_values (byte s p) (knobs_in s) k ≤ byte s (p + 1)) BadInstruction (p + 1))
      (Or (One (b_values (byte s p) k ≤ byte s (p + 2)) BadInstruction (p + 2))
      (One (reached (byte s p) (int32 s (p + 3)) ≡ false) BadInstruction (p + 3))))

  row_ranked : (k : ℕ) → Ranked 4 (instruction_place s k) (instruction_place s (suc k)) (Row k) (instruction_faults s (knobs_in s) (program_start (knobs_in s)) k)
  row_ranked k =
      let p = instruction_place s k in
      ranked_or (ranked_from _ _ BadInstruction p p (omega arith) (Decides-ltb 7 (byte s p)))
      (ranked_or (ranked_from _ _ BadInstruction (p + 1) (p + 1) (omega arith) (decides_leb (a_values (byte s p) (knobs_in s) k) (byte s (p + 1))))
      (ranked_or (ranked_from _ _ BadInstruction (p + 2) (p + 2) (omega arith) (decides_leb (b_values (byte s p) k) (byte s (p + 2))))
      (ranked_last _ (ranked_from _ _ BadInstruction (p + 3) (instruction_place s (suc k)) (omega arith) (decides_fails (reached (byte s p) (int32 s (p + 3))))))
      (omega arith)) (omega arith)) (omega arith)

  abbrev Aim : ℕ → Refusal → Type 0
  Aim k =
      let p = target_place s k in
      Or (One (instructions_in s ≤ byte s p) BadField p)
      (Or (One (bounded (int32 s (p + 1)) ≡ false) BadField (p + 1))
      (One (between (int32 s (p + 1)) (int32 s (p + 5)) (pos bound) ≡ false) BadField (p + 5)))

  aim_ranked : (k : ℕ) → Ranked 4 (target_place s k) (target_place s (suc k)) (Aim k) (target_faults s (instructions_in s) (targets_start (knobs_in s) (instructions_in s)) k)
  aim_ranked k =
      let p = target_place s k in
      ranked_or (ranked_from _ _ BadField p p (omega arith) (decides_leb (instructions_in s) (byte s p)))
      (ranked_or (ranked_from _ _ BadField (p + 1) (p + 1) (omega arith) (decides_fails (bounded (int32 s (p + 1)))))
      (ranked_last _ (ranked_from _ _ BadField (p + 5) (target_place s (suc k)) (omega arith) (decides_fails (between (int32 s (p + 1)) (int32 s (p + 5)) (pos bound)))))
      (omega arith)) (omega arith)

  -- the fields, from the front
  abbrev Field : Refusal → Type 0
  Field = Or Limit (Or (Any (knobs_in s) Side) (Or (Any (instructions_in s) Row) (Any (targets_in s) Aim)))

  field_ranked : Ranked 4 limit_place (target_place s (targets_in s)) Field (field_fault s (counts_in s))
  field_ranked =
      ranked_or limit_ranked
      (ranked_or (ranked_of side_place (side_faults s sides_start) Side side_ranked (knobs_in s))
      (ranked_or (ranked_of (instruction_place s) (instruction_faults s (knobs_in s) (program_start (knobs_in s))) Row row_ranked (instructions_in s))
      (ranked_last _ (ranked_of (target_place s) (target_faults s (instructions_in s) (targets_start (knobs_in s) (instructions_in s))) Aim aim_ranked (targets_in s)))
      (omega arith)) (omega arith)) (omega arith)

  -- all rules, stage by stage
  abbrev Rules : Refusal → Type 0
  Rules = Or (Or Head Shape) Field

  layout_stage : (e : Refusal) → Or Head Shape e → stage e.reason ≤ 3
  layout_stage e (inl x) = omega (arith, head_stage e x)
  layout_stage e (inr x) = omega (arith, (shape_ranked.within.spot e x).staged)

  rules_stage : (e : Refusal) → Rules e → stage e.reason ≤ 4
  rules_stage e (inl x) = omega (arith, layout_stage e x)
  rules_stage e (inr x) = omega (arith, (field_ranked.within.spot e x).staged)

  rules_least : Least Rules (fault s)
  rules_least =
      least_or (Or Head Shape) Field (layout_fault s) (field_fault s (counts_in s))
      (least_or Head Shape (head_fault s) _ head_least shape_ranked.least
      (λ d e x y. later_stage d e (omega (arith, head_stage d x, (shape_ranked.within.spot e y).staged))))
      field_ranked.least
      (λ d e x y. later_stage d e (omega (arith, layout_stage d x, (field_ranked.within.spot e y).staged)))

  -- each of them breaks a rule of a record
  broken_count : (p most : ℕ) (e : Refusal) → Count s p most → Miscount p most e → Broken s e
  broken_count p most e c (inl x) = rw x.1 (count_past_end p most c x.0)
  broken_count p most e c (inr x) = rw x.1 (count_out p most c x.0.0 x.0.1)

  broken_by : (e : Refusal) → Rules e → Broken s e
  broken_by e (inl (inl (inl x))) = rw x.1 (short x.0)
  broken_by e (inl (inl (inr (inl x)))) = rw x.1 (miscounted x.0.0 x.0.1)
  broken_by e (inl (inl (inr (inr x)))) = rw x.1 (version x.0)
  broken_by e (inl (inr (inl x))) = broken_count _ _ e knobs x
  broken_by e (inl (inr (inr (inl x)))) = broken_count _ _ e instructions x
  broken_by e (inl (inr (inr (inr (inl x))))) = broken_count _ _ e targets x
  broken_by e (inl (inr (inr (inr (inr (inl x)))))) = rw x.1 (cut_off x.0)
  broken_by e (inl (inr (inr (inr (inr (inr x)))))) = rw x.1 (left_over x.0)
  broken_by e (inr (inl x)) = rw x.1 (limit x.0)
  broken_by e (inr (inr (inl (k, h, inl x)))) = rw x.1 (side_low k h x.0)
  broken_by e (inr (inr (inl (k, h, inr x)))) = rw x.1 (side_high k h x.0)
  broken_by e (inr (inr (inr (inl (k, h, inl x))))) = rw x.1 (operation k h x.0)
  broken_by e (inr (inr (inr (inl (k, h, inr (inl x)))))) = rw x.1 (field_a k h x.0)
  broken_by e (inr (inr (inr (inl (k, h, inr (inr (inl x))))))) = rw x.1 (field_b k h x.0)
  broken_by e (inr (inr (inr (inl (k, h, inr (inr (inr x))))))) = rw x.1 (field_c k h x.0)
  broken_by e (inr (inr (inr (inr (k, h, inl x))))) = rw x.1 (register k h x.0)
  broken_by e (inr (inr (inr (inr (k, h, inr (inl x)))))) = rw x.1 (target_low k h x.0)
  broken_by e (inr (inr (inr (inr (k, h, inr (inr x)))))) = rw x.1 (target_high k h x.0)

  -- and there is no other
  count_of : (p most : ℕ) (e : Refusal) → Count s p most → Miscount p most e → Rules e
  count_of p most e knobs x = inl (inr (inl x))
  count_of p most e instructions x = inl (inr (inr (inl x)))
  count_of p most e targets x = inl (inr (inr (inr (inl x))))

  rule_of : (e : Refusal) → Broken s e → Rules e
  rule_of e (short x) = inl (inl (inl (x, refl)))
  rule_of e (miscounted l x) = inl (inl (inr (inl ((l, x), refl))))
  rule_of e (version x) = inl (inl (inr (inr (x, refl))))
  rule_of e (count_past_end p most c x) = count_of p most e c (inl (x, refl))
  rule_of e (count_out p most c l x) = count_of p most e c (inr ((l, x), refl))
  rule_of e (cut_off x) = inl (inr (inr (inr (inr (inl (x, refl))))))
  rule_of e (left_over x) = inl (inr (inr (inr (inr (inr (x, refl))))))
  rule_of e (limit x) = inr (inl (x, refl))
  rule_of e (side_low k h x) = inr (inr (inl (k, h, inl (x, refl))))
  rule_of e (side_high k h x) = inr (inr (inl (k, h, inr (x, refl))))
  rule_of e (operation k h x) = inr (inr (inr (inl (k, h, inl (x, refl)))))
  rule_of e (field_a k h x) = inr (inr (inr (inl (k, h, inr (inl (x, refl))))))
  rule_of e (field_b k h x) = inr (inr (inr (inl (k, h, inr (inr (inl (x, refl)))))))
  rule_of e (field_c k h x) = inr (inr (inr (inl (k, h, inr (inr (inr (x, refl)))))))
  rule_of e (register k h x) = inr (inr (inr (inr (k, h, inl (x, refl)))))
  rule_of e (target_low k h x) = inr (inr (inr (inr (k, h, inr (inl (x, refl))))))
  rule_of e (target_high k h x) = inr (inr (inr (inr (k, h, inr (inr (x, refl))))))

  -- no rule of a record is looked at later than the fields
  pub broken_stage : (e : Refusal) → Broken s e → stage e.reason ≤ 4
  broken_stage e b = rules_stage e (rule_of e b)

  pub first_told : Least (Broken s) (fault s)
  first_told = least_map Rules (Broken s) (fault s) broken_by rule_of rules_least

  pub told_first : (r : Result Fields Refusal) → mapped content r ≡ verdict s → Told (Broken s) r
  told_first r e = told_of (Broken s) content r (fault s) (content_in s (counts_in s)) e first_told
