-- The record of a content that keeps every rule is accepted, and gives the content back.
use Rattle.std.proofs.Common.{◌≡◌, ℕ, ◌+◌, ◌*◌, ◌<◌, ◌≤◌, not, eqb, ltb, leb, List, [], ◌++◌, length, get_or, drop, pos, None, Ok, sym, refl, ap, ◌∙◌, subst, append-nil, zero-add, arith, length-append}
use Rattle.std.proofs.lemmas.Nat.{div-add-mod'}
use Rattle.std.proofs.lemmas.Bool.{not_from_true, le-ltb, lt-leb, eq-eqb, ne_eqb}
use Rattle.std.specs.List.{flat_map}
use Rattle.boxes.specs.Boxes.{nought, good_side}
use Rattle.records.specs.declared.reason.Reason.TheVariants.{BadLength, BadVersion, BadShape, BadField}
use Rattle.records.specs.declared.instruction.Instruction.TheVariants.{Const}
use Rattle.records.specs.Numbers.{byte, nat16, nat32}
use Rattle.records.specs.Places.{version_place, knobs_place, limit_place, sides_start, side_size, program_place, program_start, instruction_size, targets_place, targets_start, target_size}
use Rattle.records.specs.Rules.{Content, Keeps, good_instruction, good_target, no_target}
use Rattle.records.specs.Entries.{side_faults, sides_from, instruction_faults, instructions_from, target_faults, targets_from}
use Rattle.records.specs.Layouts.{Counts, instructions_in, targets_in, counts_in, ends_at, head_fault, count_fault, size_fault, layout_fault}
use Rattle.records.specs.Verdicts.{limit_fault, sides_fault, program_fault, targets_fault, field_fault, fault, content_in, verdict}
use Rattle.records.specs.Encoding.{encode_side, encode_instruction, encode_target, table, tables, body, encode}
use Rattle.records.proofs.Digits.{join32}
use Rattle.records.proofs.Checks.{one_clean, both_none}
use Rattle.records.proofs.Runs.{all_none, every_at}
use Rattle.records.proofs.Given.{byte_there, side_given, instruction_given, target_given}
use Rattle.records.proofs.Placed.{listed_is, length_joined, item_there, table_past, wide_instruction, after_one}

count_clean : (s : List ℕ) (at most n : ℕ) → byte s at ≡ n → at < length s → 1 ≤ n → n ≤ most → count_fault s at most ≡ None
count_clean s at most n e l h g =
    one_clean (leb (length s) at) BadShape (length s) _ (lt-leb _ _ l)
    (one_clean (eqb (byte s at) 0) BadShape at _ (ne_eqb _ _ (λ z. omega arith))
    (one_clean (ltb most (byte s at)) BadShape at None (le-ltb _ _ (omega arith)) refl))

size_clean : (s : List ℕ) (end : ℕ) → length s ≡ end → size_fault s end ≡ None
size_clean s end e =
    one_clean (ltb (length s) end) BadShape (length s) _ (le-ltb _ _ (omega arith))
    (one_clean (ltb end (length s)) BadShape end None (le-ltb _ _ (omega arith)) refl)

-- how many entries each table of the content has
abbrev counts_of : Content → Counts
counts_of c = record { knobs = length c.sides; instructions = length c.program; targets = length c.targets }

module _ (c : Content) (g : Keeps c) where
  abbrev knobs : ℕ
  knobs = length c.sides

  abbrev registers : ℕ
  registers = length c.program

  -- where each part of the record stands
  program_count : drop (program_place knobs) (encode c) ≡ tables c
  program_count = table_past encode_side side_size (λ x. refl) (encode c) (tables c) c.sides sides_start refl

  program_there : drop (program_start knobs) (encode c) ≡ flat_map encode_instruction c.program ++ table encode_target c.targets
  program_there = after_one (encode c) (program_place knobs) _ _ program_count

  targets_count : drop (targets_place knobs registers) (encode c) ≡ table encode_target c.targets
  targets_count = table_past encode_instruction instruction_size wide_instruction (encode c) _ c.program (program_start knobs) program_there

  targets_there : drop (targets_start knobs registers) (encode c) ≡ flat_map encode_target c.targets ++ []
  targets_there = after_one (encode c) (targets_place knobs registers) _ _ targets_count ∙ sym (append-nil (flat_map encode_target c.targets))

  long : length (encode c) ≡ ends_at (counts_of c)
  long =
      let a = length_joined encode_side side_size (λ x. refl) c.sides in
      let b = length_joined encode_instruction instruction_size wide_instruction c.program in
      let d = length_joined encode_target target_size (λ x. refl) c.targets in
      let e = length-append (flat_map encode_instruction c.program) (table encode_target c.targets) in
      let f = length-append (flat_map encode_side c.sides) (tables c) in
      omega arith

  is_instructions : instructions_in (encode c) ≡ registers
  is_instructions = byte_there (encode c) (program_place knobs) _ program_count 0 (program_place knobs) (omega arith)

  is_targets : targets_in (encode c) ≡ length c.targets
  is_targets = byte_there (encode c) (targets_place knobs registers) _ targets_count 0 (targets_place knobs (instructions_in (encode c))) (omega (arith, is_instructions))

  -- no part of the layout has a fault
  head_clean : head_fault (encode c) ≡ None
  head_clean =
      let n : nat32 (encode c) 0 + 4 ≡ length (encode c) = ap (λ (i : ℕ). i + 4) (join32 (length (body c))) ∙ omega arith in
      one_clean (ltb (length (encode c)) 5) BadLength (length (encode c)) _ (le-ltb _ _ (omega (arith, long)))
      (one_clean (not (eqb (nat32 (encode c) 0 + 4) (length (encode c)))) BadLength 0 _ (not_from_true _ (eq-eqb _ _ n))
      (one_clean (not (eqb (byte (encode c) version_place) 1)) BadVersion version_place None refl refl))

  layout_clean : layout_fault (encode c) ≡ None
  layout_clean =
      let p = program_place knobs in
      let t = targets_place knobs (instructions_in (encode c)) in
      both_none (head_fault (encode c)) _ head_clean
      (both_none (count_fault (encode c) knobs_place 4) _ (count_clean (encode c) knobs_place 4 knobs refl (omega (arith, long)) g.some_sides g.few_sides)
      (both_none (count_fault (encode c) p 64) _ (count_clean (encode c) p 64 registers is_instructions (omega (arith, long)) g.some_program g.few_program)
      (both_none (count_fault (encode c) t 8) _ (count_clean (encode c) t 8 (length c.targets) is_targets (omega (arith, long, is_instructions)) g.some_targets g.few_targets)
      (both_none (size_fault (encode c) (ends_at (counts_in (encode c)))) None (size_clean (encode c) (ends_at (counts_in (encode c))) (omega (arith, long, is_instructions, is_targets))) refl))))

  -- each entry is read back, without a fault
  side_read : (i : ℕ) → i < knobs → (sides_from (encode c) sides_start i ≡ get_or c.sides i nought) × (side_faults (encode c) sides_start i ≡ None)
  side_read i h =
      let t = item_there encode_side side_size (λ x. refl) (encode c) (tables c) c.sides nought sides_start refl i h in
      side_given (encode c) (sides_start + side_size * i) t.0 (get_or c.sides i nought) (every_at (λ _ x. good_side x) 0 c.sides nought g.sided i h) t.1

  instruction_read : (i : ℕ) → i < registers
      → (instructions_from (encode c) (program_start knobs) i ≡ get_or c.program i (Const (pos 0)))
      × (instruction_faults (encode c) knobs (program_start knobs) i ≡ None)
  instruction_read i h =
      let x = get_or c.program i (Const (pos 0)) in
      let t = item_there encode_instruction instruction_size wide_instruction (encode c) _ c.program (Const (pos 0)) (program_start knobs) program_there i h in
      let e = rw zero-add at (every_at (good_instruction knobs) 0 c.program (Const (pos 0)) g.programmed i h) in
      instruction_given (encode c) (program_start knobs + instruction_size * i) t.0 knobs i x e t.1

  target_read : (i : ℕ) → i < length c.targets
      → (targets_from (encode c) (targets_start knobs registers) i ≡ get_or c.targets i no_target)
      × (target_faults (encode c) registers (targets_start knobs registers) i ≡ None)
  target_read i h =
      let t = item_there encode_target target_size (λ x. refl) (encode c) [] c.targets no_target (targets_start knobs registers) targets_there i h in
      target_given (encode c) (targets_start knobs registers + target_size * i) t.0 registers (get_or c.targets i no_target)
      (every_at (λ _ x. good_target registers x) 0 c.targets no_target g.aimed i h) t.1

  limit_read : nat16 (encode c) limit_place ≡ c.limit
  limit_read = div-add-mod' c.limit 256

  limit_clean : limit_fault (encode c) ≡ None
  limit_clean =
      one_clean (eqb (nat16 (encode c) limit_place) 0) BadField limit_place _ (ne_eqb _ _ (λ z. omega (arith, limit_read, g.positive)))
      (one_clean (ltb 32768 (nat16 (encode c) limit_place)) BadField limit_place None (le-ltb _ _ (omega (arith, limit_read, g.limited))) refl)

  field_clean : field_fault (encode c) (counts_of c) ≡ None
  field_clean =
      both_none (limit_fault (encode c)) _ limit_clean
      (both_none (sides_fault (encode c) (counts_of c)) _ (all_none _ knobs (λ i h. (side_read i h).1))
      (both_none (program_fault (encode c) (counts_of c)) _ (all_none _ registers (λ i h. (instruction_read i h).1))
      (both_none (targets_fault (encode c) (counts_of c)) None (all_none _ (length c.targets) (λ i h. (target_read i h).1)) refl)))

  content_is : content_in (encode c) (counts_of c) ≡ c
  content_is =
      rw (
        limit_read,
        listed_is (sides_from (encode c) sides_start) c.sides nought (λ i h. (side_read i h).0),
        listed_is (instructions_from (encode c) (program_start knobs)) c.program (Const (pos 0)) (λ i h. (instruction_read i h).0),
        listed_is (targets_from (encode c) (targets_start knobs registers)) c.targets no_target (λ i h. (target_read i h).0),
      )

  counts_are : counts_of c ≡ counts_in (encode c)
  counts_are = rw (is_targets, is_instructions)

  accepted : verdict (encode c) ≡ Ok c
  accepted =
      let f : field_fault (encode c) (counts_in (encode c)) ≡ None = subst (λ (q : Counts). field_fault (encode c) q ≡ None) counts_are field_clean in
      let v : content_in (encode c) (counts_in (encode c)) ≡ c = subst (λ (q : Counts). content_in (encode c) q ≡ c) counts_are content_is in
      let n : fault (encode c) ≡ None = both_none (layout_fault (encode c)) _ layout_clean f in
      rw (n, v)

-- the record of a content that keeps every rule is accepted, and gives the content back
pub encoding_is_accepted : (c : Content) → Keeps c → verdict (encode c) ≡ Ok c
encoding_is_accepted c g = accepted c g
