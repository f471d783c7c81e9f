-- What was read without a fault keeps its rule: an entry, a table, the limit.
use Rattle.std.proofs.Common.{◌≡◌, ℕ, zero, suc, ◌+◌, ◌*◌, ◌<◌, ◌≤◌, true, not, eqb, ltb, leb, List, length, Option, ℤ, pos, negsuc, None, Ok, arith}
use Rattle.std.proofs.lemmas.List.FromFn.{length-map-range_with_len}
use Rattle.std.proofs.lemmas.Bool.{and_from, not-false, lt-ltb, leb-false, ltb-false, eqb-false}
use Rattle.boxes.specs.Boxes.{between, good_side}
use Rattle.records.specs.declared.reason.Reason.TheVariants.{BadInstruction, BadField}
use Rattle.records.specs.declared.reason.Refusal.{Refusal}
use Rattle.records.specs.declared.instruction.Instruction.{Instruction}
use Rattle.records.specs.declared.target.Target.{Target}
use Rattle.records.specs.Numbers.{byte, nat16, int16, int32}
use Rattle.records.specs.Places.{limit_place, side_size, instruction_size, target_size}
use Rattle.records.specs.Faults.{first_of, listed, unless}
use Rattle.records.specs.Rules.{bound, bounded, good_instruction, good_target, good_sides, good_program, good_targets}
use Rattle.records.specs.Entries.{decoded, a_values, b_values, reached, instruction_at, instruction_fault, instruction_faults, instructions_from, side_at, side_fault, side_faults, sides_from, target_at, target_fault, target_faults, targets_from}
use Rattle.records.specs.Verdicts.{limit_fault}
use Rattle.records.proofs.Checks.{value_of, none_of, rest_unmet, two_unmet}
use Rattle.records.proofs.Runs.{every_listed}

-- what was listed without a fault is as long as it should be
pub listed_long : {A : Type 0} (fault : ℕ → Option Refusal) (item : ℕ → A) (n : ℕ) (xs : List A) → Ok xs ≡ unless (first_of fault n) (listed item n) → length xs ≡ n
listed_long fault item n xs h = rw (value_of _ _ xs h) (length-map-range_with_len item 0 n)

-- the fields of an instruction keep the rules of its operation
pub record Row (code a b : ℕ) (c : ℤ) (knobs k : ℕ) : Type 0 where
  pub known : code ≤ 7
  pub first_operand : a < a_values code knobs k
  pub second_operand : b < b_values code k
  pub number : reached code c ≡ true

-- an instruction whose fields keep the rules is a good one
good_decoded : (code a b : ℕ) (c : ℤ) (knobs k : ℕ) → Row code a b c knobs k → good_instruction knobs k (decoded code a b c) ≡ true
good_decoded zero a b c knobs k g = g.number
good_decoded (suc zero) a b c knobs k g = lt-ltb a knobs g.first_operand
good_decoded (suc (suc zero)) a b c knobs k g = and_from _ _ (lt-ltb a k g.first_operand) (lt-ltb b k g.second_operand)
good_decoded (suc (suc (suc zero))) a b c knobs k g = and_from _ _ (lt-ltb a k g.first_operand) (lt-ltb b k g.second_operand)
good_decoded (suc (suc (suc (suc zero)))) a b c knobs k g = and_from _ _ (lt-ltb a k g.first_operand) (lt-ltb b k g.second_operand)
good_decoded (suc (suc (suc (suc (suc zero))))) a b c knobs k g = lt-ltb a k g.first_operand
good_decoded (suc (suc (suc (suc (suc (suc zero)))))) a b c knobs k g = and_from _ _ (lt-ltb a k g.first_operand) (lt-ltb b k g.second_operand)
good_decoded (suc (suc (suc (suc (suc (suc (suc zero))))))) a b c knobs k g = and_from _ _ (lt-ltb a k g.first_operand) (lt-ltb b 31 g.second_operand)
good_decoded (suc (suc (suc (suc (suc (suc (suc (suc n)))))))) a b c knobs k g = absurd (omega (arith, g.known))

module _ (s : List ℕ) where
  pub row_kept : (knobs k at : ℕ) → instruction_fault s knobs k at ≡ None → Row (byte s at) (byte s (at + 1)) (byte s (at + 2)) (int32 s (at + 3)) knobs k
  row_kept knobs k at e =
      let u0 = rest_unmet (ltb 7 (byte s at)) BadInstruction at _ e in
      let u1 = rest_unmet (leb (a_values (byte s at) knobs k) (byte s (at + 1))) BadInstruction (at + 1) _ u0.1 in
      let u2 = rest_unmet (leb (b_values (byte s at) k) (byte s (at + 2))) BadInstruction (at + 2) _ u1.1 in
      let u3 = rest_unmet (not (reached (byte s at) (int32 s (at + 3)))) BadInstruction (at + 3) None u2.1 in
      record {
        known = ltb-false _ _ u0.0;
        first_operand = leb-false _ _ u1.0;
        second_operand = leb-false _ _ u2.0;
        number = not-false _ u3.0;
      }

  pub good_instruction_at : (knobs k at : ℕ) → instruction_fault s knobs k at ≡ None → good_instruction knobs k (instruction_at s at) ≡ true
  good_instruction_at knobs k at e = good_decoded (byte s at) _ _ _ knobs k (row_kept knobs k at e)

  pub good_side_at : (at : ℕ) → side_fault s at ≡ None → good_side (side_at s at) ≡ true
  good_side_at at e =
      two_unmet (between (negsuc 16383) (int16 s at) (pos 16383)) (between (int16 s at) (int16 s (at + 2)) (pos 16383)) BadField at (at + 2) e

  pub good_target_at : (registers at : ℕ) → target_fault s registers at ≡ None → good_target registers (target_at s at) ≡ true
  good_target_at registers at e =
      let u0 = rest_unmet (leb registers (byte s at)) BadField at _ e in
      and_from (ltb (byte s at) registers) _ (lt-ltb _ _ (leb-false registers (byte s at) u0.0))
      (two_unmet (bounded (int32 s (at + 1))) (between (int32 s (at + 1)) (int32 s (at + 5)) (pos bound)) BadField (at + 1) (at + 5) u0.1)

  pub limit_within : limit_fault s ≡ None → (1 ≤ nat16 s limit_place) × (nat16 s limit_place ≤ 32768)
  limit_within e =
      let u0 = rest_unmet (eqb (nat16 s limit_place) 0) BadField limit_place _ e in
      let u1 = rest_unmet (ltb 32768 (nat16 s limit_place)) BadField limit_place None u0.1 in
      let n = eqb-false (nat16 s limit_place) 0 u0.0 in
      (omega arith, ltb-false _ _ u1.0)

  pub sides_good : (start n : ℕ) → first_of (side_faults s start) n ≡ None → good_sides (listed (sides_from s start) n) ≡ true
  sides_good start n = every_listed (side_faults s start) (sides_from s start) (λ _ x. good_side x) (λ k e. good_side_at (start + side_size * k) e) n

  pub program_good : (knobs start n : ℕ) → first_of (instruction_faults s knobs start) n ≡ None → good_program knobs (listed (instructions_from s start) n) ≡ true
  program_good knobs start n = every_listed (instruction_faults s knobs start) (instructions_from s start) (good_instruction knobs) (λ k e. good_instruction_at knobs k (start + instruction_size * k) e) n

  pub targets_good : (registers start n : ℕ) → first_of (target_faults s registers start) n ≡ None → good_targets registers (listed (targets_from s start) n) ≡ true
  targets_good registers start n = every_listed (target_faults s registers start) (targets_from s start) (λ _ x. good_target registers x) (λ k e. good_target_at registers (start + target_size * k) e) n

  -- what a reader of a part gave
  pub limit_kept : (limit : ℕ) → Ok limit ≡ unless (limit_fault s) (nat16 s limit_place) → (1 ≤ limit) × (limit ≤ 32768)
  limit_kept limit h = rw (value_of _ _ limit h) (limit_within (none_of _ _ limit h))

  pub program_kept : (knobs start n : ℕ) (xs : List Instruction) → Ok xs ≡ unless (first_of (instruction_faults s knobs start) n) (listed (instructions_from s start) n) → good_program knobs xs ≡ true
  program_kept knobs start n xs h = rw (value_of _ _ xs h) (program_good knobs start n (none_of _ _ xs h))

  pub targets_kept : (registers start n : ℕ) (xs : List Target) → Ok xs ≡ unless (first_of (target_faults s registers start) n) (listed (targets_from s start) n) → good_targets registers xs ≡ true
  targets_kept registers start n xs h = rw (value_of _ _ xs h) (targets_good registers start n (none_of _ _ xs h))
