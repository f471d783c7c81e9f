-- A byte string that is accepted is the record of what was read, which keeps every rule.
use Rattle.std.proofs.Common.{◌≡◌, ℕ, ◌+◌, ◌*◌, ◌≤◌, not, eqb, ltb, List, [], ◌∷◌, ◌++◌, length, drop, None, Ok, sym, refl, ap, ◌∙◌, append-nil, arith, length-drop}
use Rattle.std.proofs.lemmas.List.FromFn.{length-map-range_with_len}
use Rattle.std.proofs.lemmas.List.{drop_all}
use Rattle.std.proofs.lemmas.Bool.{eqb-true, not-false}
use Rattle.std.specs.List.{flat_map}
use Rattle.records.specs.declared.reason.Reason.TheVariants.{BadLength, BadVersion}
use Rattle.records.specs.Numbers.{byte, nat32, Bytes}
use Rattle.records.specs.Places.{version_place, knobs_place, limit_place, sides_start, side_size, program_place, program_start, instruction_size, targets_place, targets_start, target_size}
use Rattle.records.specs.Faults.{first}
use Rattle.records.specs.Rules.{Content, Keeps}
use Rattle.records.specs.Entries.{sides_from, instruction_faults, instructions_from, targets_from}
use Rattle.records.specs.Layouts.{knobs_in, instructions_in, targets_in, counts_in, ends_at, head_fault, layout_fault, Shaped}
use Rattle.records.specs.Verdicts.{limit_fault, sides_fault, program_fault, targets_fault, field_fault, fault, sides_read, program_read, targets_read, content_in, verdict}
use Rattle.records.specs.Encoding.{encode_side, encode_instruction, encode_target, table, tables, body, encode, RecordOf}
use Rattle.records.proofs.Checks.{value_of, none_of, none_left, none_right, rest_unmet}
use Rattle.records.proofs.Runs.{each_none}
use Rattle.records.proofs.Goods.{limit_within, sides_good, program_good, targets_good}
use Rattle.records.proofs.Shapes.{shaped}
use Rattle.records.proofs.Written.{drop1, number16, number32, side_back, instruction_back, target_back, items_back}

module _ (s : List ℕ) (b : Bytes s) (le : layout_fault s ≡ None) (fe : field_fault s (counts_in s) ≡ None) where
  shape : Shaped (counts_in s) (length s)
  shape = shaped s le

  -- no part has a fault
  limit_none : limit_fault s ≡ None
  limit_none = none_left (limit_fault s) _ fe

  past_limit : first (sides_fault s (counts_in s) ∷ program_fault s (counts_in s) ∷ targets_fault s (counts_in s) ∷ []) ≡ None
  past_limit = none_right (limit_fault s) _ fe

  sides_none : sides_fault s (counts_in s) ≡ None
  sides_none = none_left (sides_fault s (counts_in s)) _ past_limit

  past_sides : first (program_fault s (counts_in s) ∷ targets_fault s (counts_in s) ∷ []) ≡ None
  past_sides = none_right (sides_fault s (counts_in s)) _ past_limit

  program_none : program_fault s (counts_in s) ≡ None
  program_none = none_left (program_fault s (counts_in s)) _ past_sides

  targets_none : targets_fault s (counts_in s) ≡ None
  targets_none = none_left (targets_fault s (counts_in s)) None (none_right (program_fault s (counts_in s)) _ past_sides)

  -- a byte with its number, and what follows it
  counted : (at end n : ℕ) (xs : List ℕ) → at + 1 ≡ end → end ≤ length s → n ≡ byte s at → drop end s ≡ xs → drop at s ≡ n ∷ xs
  counted at end n xs e h ne d = cc (drop1 s b at (omega arith))

  -- from the back: each table, and the count in front of it
  targets_tail : drop (targets_start (knobs_in s) (instructions_in s)) s ≡ flat_map encode_target (targets_read s (counts_in s))
  targets_tail =
      let start = targets_start (knobs_in s) (instructions_in s) in
      rw (drop_all (ends_at (counts_in s)) s (omega (arith, shape.ends)), append-nil) at
      (items_back encode_target s start target_size (targets_from s start) (targets_in s) (λ k h. target_back s b (start + target_size * k) (omega (arith, shape.ends))))

  targets_back : drop (targets_place (knobs_in s) (instructions_in s)) s ≡ table encode_target (targets_read s (counts_in s))
  targets_back =
      let start = targets_start (knobs_in s) (instructions_in s) in
      counted (targets_place (knobs_in s) (instructions_in s)) start _ _ refl (omega (arith, shape.ends))
      (length-map-range_with_len (targets_from s start) 0 (targets_in s)) targets_tail

  program_tail : drop (program_start (knobs_in s)) s ≡ flat_map encode_instruction (program_read s (counts_in s)) ++ table encode_target (targets_read s (counts_in s))
  program_tail =
      let start = program_start (knobs_in s) in
      rw (← targets_back) (items_back encode_instruction s start instruction_size (instructions_from s start) (instructions_in s)
      (λ k h. instruction_back s b (knobs_in s) k (start + instruction_size * k) (omega (arith, shape.ends))
      (each_none (instruction_faults s (knobs_in s) start) (instructions_in s) k program_none h)))

  tables_back : drop (program_place (knobs_in s)) s ≡ tables (content_in s (counts_in s))
  tables_back =
      let start = program_start (knobs_in s) in
      counted (program_place (knobs_in s)) start _ _ refl (omega (arith, shape.ends))
      (length-map-range_with_len (instructions_from s start) 0 (instructions_in s)) program_tail

  sides_tail : drop sides_start s ≡ flat_map encode_side (sides_read s (counts_in s)) ++ tables (content_in s (counts_in s))
  sides_tail =
      rw (← tables_back) (items_back encode_side s sides_start side_size (sides_from s sides_start) (knobs_in s)
      (λ k h. side_back s b (sides_start + side_size * k) (omega (arith, shape.ends))))

  head_kept : (nat32 s 0 + 4 ≡ length s) × (byte s version_place ≡ 1)
  head_kept =
      let h = none_left (head_fault s) _ le in
      let u0 = rest_unmet (ltb (length s) 5) BadLength (length s) _ h in
      let u1 = rest_unmet (not (eqb (nat32 s 0 + 4) (length s))) BadLength 0 _ u0.1 in
      let u2 = rest_unmet (not (eqb (byte s version_place) 1)) BadVersion version_place None u1.1 in
      (eqb-true _ _ (not-false _ u1.0), eqb-true _ _ (not-false _ u2.0))

  body_is : drop 4 s ≡ body (content_in s (counts_in s))
  body_is =
      counted version_place knobs_place 1 _ refl (omega (arith, shape.ends)) (sym head_kept.1)
      (counted knobs_place limit_place _ _ refl (omega (arith, shape.ends)) (length-map-range_with_len (sides_from s sides_start) 0 (knobs_in s))
      (rw (← sides_tail) (number16 s b limit_place sides_start refl (omega (arith, shape.ends)))))

  encode_is : encode (content_in s (counts_in s)) ≡ s
  encode_is =
      let n : length (body (content_in s (counts_in s))) ≡ nat32 s 0 = ap length (sym body_is) ∙ (length-drop 4 s ∙ omega (arith, head_kept.0)) in
      rw (n, ← body_is) (sym (number32 s b 0 4 refl (omega (arith, shape.ends))))

  keeps : Keeps (content_in s (counts_in s))
  keeps =
      let ps = program_start (knobs_in s) in
      let ts = targets_start (knobs_in s) (instructions_in s) in
      let ns = length-map-range_with_len (sides_from s sides_start) 0 (knobs_in s) in
      let np = length-map-range_with_len (instructions_from s ps) 0 (instructions_in s) in
      let nt = length-map-range_with_len (targets_from s ts) 0 (targets_in s) in
      record {
        positive = (limit_within s limit_none).0;
        limited = (limit_within s limit_none).1;
        some_sides = omega (arith, ns, shape.some_knobs);
        few_sides = omega (arith, ns, shape.few_knobs);
        some_program = omega (arith, np, shape.some_instructions);
        few_program = omega (arith, np, shape.few_instructions);
        some_targets = omega (arith, nt, shape.some_targets);
        few_targets = omega (arith, nt, shape.few_targets);
        sided = sides_good s sides_start (knobs_in s) sides_none;
        programmed = rw ns (program_good s (knobs_in s) ps (instructions_in s) program_none);
        aimed = rw np (targets_good s (instructions_in s) ts (targets_in s) targets_none);
      }

  pub record_of : RecordOf Keeps (content_in s (counts_in s)) s
  record_of = record { written = encode_is; kept = keeps }

-- a byte string that is accepted is the record of what was read, which keeps every rule
pub accepted_is_encoding : (s : List ℕ) (c : Content) → Bytes s → verdict s ≡ Ok c → RecordOf Keeps c s
accepted_is_encoding s c b e =
    let n = none_of (fault s) (content_in s (counts_in s)) c (sym e) in
    rw (value_of _ _ c (sym e)) (record_of s b (none_left (layout_fault s) _ n) (none_right (layout_fault s) _ n))
