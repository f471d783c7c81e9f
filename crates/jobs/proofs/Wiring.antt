-- What the rule of a program says of each of its instructions.
use Rattle.std.proofs.Common.{◌≡◌, ℕ, ◌+◌, ◌<◌, true, ◌&&◌, ltb, List, length, get_or, subst, arith}
use Rattle.std.proofs.lemmas.Grind.{common_steps}
use Rattle.std.proofs.lemmas.Bool.{and_parts, ltb-true}
use Rattle.boxes.specs.declared.region.Region.{Region}
use Rattle.boxes.specs.Views.{sides_of}
use Rattle.records.specs.declared.fields.Fields.{Fields}
use Rattle.records.specs.declared.instruction.Instruction.{Instruction}
use Rattle.records.specs.declared.instruction.Instruction.TheVariants.{Const, Knob, Add, Sub, Mul, Sqr, Min, Shr}
use Rattle.records.specs.Rules.{good_instruction, good_program}
use Rattle.records.proofs.Runs.{every_at}
use Rattle.jobs.specs.Registers.{Before, Wired, no_instruction, program_of}

below_two : (a b k : ℕ) → (ltb a k && ltb b k) ≡ true → (a < k) × (b < k)
below_two a b k e = grind (arith, common_steps)

before : (n k : ℕ) (i : Instruction) → good_instruction n k i ≡ true → Before n k i
before n k (Const c) e = tt
before n k (Knob a) e = ltb-true a n e
before n k (Add a b) e = below_two a b k e
before n k (Sub a b) e = below_two a b k e
before n k (Mul a b) e = below_two a b k e
before n k (Sqr a) e = ltb-true a k e
before n k (Min a b) e = below_two a b k e
before n k (Shr a b) e = ltb-true a k (and_parts (ltb a k) (ltb b 31) e).0

-- a program that keeps its rule names only what there is
pub wired : (n : ℕ) (program : List Instruction) → good_program n program ≡ true → Wired n program
wired n program e k h =
    let q : 0 + k ≡ k = omega arith in
    before n k (get_or program k no_instruction) (subst (λ j. good_instruction n j (get_or program k no_instruction) ≡ true) q (every_at (good_instruction n) 0 program no_instruction e k h))

-- over a region with the job's knobs, its program names only what there is
pub region_wired : (f : Fields) (r : Region) → length (sides_of r) ≡ length (sides_of f.start) → Wired (length (sides_of r)) (program_of f)
region_wired f r q = rw q (wired (length (sides_of f.start)) (program_of f) f.programmed)
