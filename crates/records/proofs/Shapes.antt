-- The counts of a record without a fault in its layout lie within their limits, and its size is theirs.
use Rattle.std.proofs.Common.{◌≡◌, ℕ, ◌≤◌, eqb, ltb, leb, List, length, None, Ok, Err, Result, sym, ◌∙◌, arith}
use Rattle.std.proofs.lemmas.Bool.{ltb-false, eqb-false}
use Rattle.records.specs.declared.reason.Reason.TheVariants.{BadShape}
use Rattle.records.specs.declared.reason.Refusal.{Refusal}
use Rattle.records.specs.Numbers.{byte}
use Rattle.records.specs.Places.{knobs_place, program_place, targets_place}
use Rattle.records.specs.Rules.{Content}
use Rattle.records.specs.Faults.{unless}
use Rattle.records.specs.Layouts.{Counts, knobs_in, instructions_in, counts_in, ends_at, head_fault, count_fault, size_fault, layout_fault, Shaped}
use Rattle.records.specs.Verdicts.{field_fault, content_in, verdict}
use Rattle.records.proofs.Checks.{value_of, none_of, went, broke, none_left, none_right, rest_unmet}

counted : (s : List ℕ) (at most : ℕ) → count_fault s at most ≡ None → (1 ≤ byte s at) × (byte s at ≤ most)
counted s at most e =
    let u0 = rest_unmet (leb (length s) at) BadShape (length s) _ e in
    let u1 = rest_unmet (eqb (byte s at) 0) BadShape at _ u0.1 in
    let u2 = rest_unmet (ltb most (byte s at)) BadShape at None u1.1 in
    let n = eqb-false (byte s at) 0 u1.0 in
    (omega arith, ltb-false _ _ u2.0)

sized : (s : List ℕ) (end : ℕ) → size_fault s end ≡ None → end ≡ length s
sized s end e =
    let u0 = rest_unmet (ltb (length s) end) BadShape (length s) _ e in
    let u1 = rest_unmet (ltb end (length s)) BadShape end None u0.1 in
    omega (arith, ltb-false (length s) end u0.0, ltb-false end (length s) u1.0)

pub shaped : (s : List ℕ) → layout_fault s ≡ None → Shaped (counts_in s) (length s)
shaped s e =
    let p = program_place (knobs_in s) in
    let t = targets_place (knobs_in s) (instructions_in s) in
    let r0 = none_right (head_fault s) _ e in
    let r1 = none_right (count_fault s knobs_place 4) _ r0 in
    let r2 = none_right (count_fault s p 64) _ r1 in
    let r3 = none_right (count_fault s t 8) _ r2 in
    let a = counted s knobs_place 4 (none_left (count_fault s knobs_place 4) _ r0) in
    let b = counted s p 64 (none_left (count_fault s p 64) _ r1) in
    let d = counted s t 8 (none_left (count_fault s t 8) _ r2) in
    record {
      some_knobs = a.0;
      few_knobs = a.1;
      some_instructions = b.0;
      few_instructions = b.1;
      some_targets = d.0;
      few_targets = d.1;
      ends = sized s (ends_at (counts_in s)) (none_left (size_fault s (ends_at (counts_in s))) None r3);
    }

-- the verdict from the layout's and the fields'
module _ (s : List ℕ) where
  pub no_layout : (d : Refusal) → Err d ≡ unless (layout_fault s) (counts_in s) → Err d ≡ verdict s
  no_layout d e = broke (layout_fault s) _ (counts_in s) d _ e

  module _ (q : Counts) (h : Ok q ≡ unless (layout_fault s) (counts_in s)) where
    pub shaped_counts : Shaped q (length s)
    shaped_counts = rw (value_of _ _ q h) (shaped s (none_of _ _ q h))

    pub whole : (r : Result Content Refusal) → r ≡ unless (field_fault s q) (content_in s q) → r ≡ verdict s
    whole r e =
        rw (value_of _ _ q h) at e ∙ sym (went (layout_fault s) _ (counts_in s) q _ h)
