-- What a job record says, and the rules that its fields keep.
use Rattle.std.specs.Prelude.{◌≡◌, ℕ, ◌+◌, ◌^◌, ◌≤◌, Bool, true, ◌&&◌, List, [], ◌∷◌, length, ℤ, pos, neg_ℤ, nat_lt}
use Rattle.boxes.specs.Boxes.{Ends, between, good_side}
use Rattle.records.specs.declared.target.Target.{Target}
use Rattle.records.specs.declared.instruction.Instruction.{Instruction}
use Rattle.records.specs.declared.instruction.Instruction.TheVariants.{Const, Knob, Add, Sub, Mul, Sqr, Min, Shr}

-- how far a constant or a target's end may lie from 0
abbrev pub bound : ℕ
bound = 2 ^ 30

-- the number lies within the bound on either side of 0
abbrev pub bounded : ℤ → Bool
bounded x = between (neg_ℤ (pos bound)) x (pos bound)

-- instruction k names a knob that there is, and registers that are filled before it
abbrev pub good_instruction : ℕ → ℕ → Instruction → Bool
good_instruction knobs k (Const c) = bounded c
good_instruction knobs k (Knob a) = nat_lt a knobs
good_instruction knobs k (Add a b) = nat_lt a k && nat_lt b k
good_instruction knobs k (Sub a b) = nat_lt a k && nat_lt b k
good_instruction knobs k (Mul a b) = nat_lt a k && nat_lt b k
good_instruction knobs k (Sqr a) = nat_lt a k
good_instruction knobs k (Min a b) = nat_lt a k && nat_lt b k
good_instruction knobs k (Shr a b) = nat_lt a k && nat_lt b 31

-- a target names a filled register, its ends lie within the bound, and the low one does not pass the high one
abbrev pub good_target : ℕ → Target → Bool
good_target registers t = nat_lt t.register registers && (bounded t.low && between t.low t.high (pos bound))

-- the ends between which the target's register must lie
abbrev pub target_ends : Target → Ends
target_ends t = record { lo = t.low; hi = t.high }

-- the target in the place of none
abbrev pub no_target : Target
no_target = record { register = 0; low = pos 0; high = pos 0 }

-- a test holds of each item with its number, counted on from k
abbrev pub every : {A : Type 0} → (ℕ → A → Bool) → ℕ → List A → Bool
every p k [] = true
every p k (x ∷ xs) = p k x && every p (k + 1) xs

-- each side is a knob's
abbrev pub good_sides : List Ends → Bool
good_sides = every (λ _ x. good_side x) 0

-- each instruction keeps its rule, in a job with so many knobs
abbrev pub good_program : ℕ → List Instruction → Bool
good_program knobs = every (good_instruction knobs) 0

-- each target keeps its rule, in a job with so many registers
abbrev pub good_targets : ℕ → List Target → Bool
good_targets registers = every (λ _ x. good_target registers x) 0

-- what a job record says
pub record Content : Type 0 where
  pub limit : ℕ
  pub sides : List Ends
  pub program : List Instruction
  pub targets : List Target

-- what a record says keeps every rule
pub record Keeps (c : Content) : Type 0 where
  pub positive : 1 ≤ c.limit
  pub limited : c.limit ≤ 32768
  pub some_sides : 1 ≤ length c.sides
  pub few_sides : length c.sides ≤ 4
  pub some_program : 1 ≤ length c.program
  pub few_program : length c.program ≤ 64
  pub some_targets : 1 ≤ length c.targets
  pub few_targets : length c.targets ≤ 8
  pub sided : good_sides c.sides ≡ true
  pub programmed : good_program (length c.sides) c.program ≡ true
  pub aimed : good_targets (length c.program) c.targets ≡ true
