-- The values of a program's registers are the one solution of its equations.
use Rattle.std.proofs.Common.{◌≡◌, ℕ, zero, suc, ◌<◌, ◌≤◌, List, length, get_or, take, ℤ, pos, ◌+ℤ◌, ◌-ℤ◌, ◌*ℤ◌, Some, sym, refl, ap, ◌∙◌, ⊎_elim, arith}
use Rattle.std.proofs.lemmas.List.{ext_get_or, get_or-take}
use Rattle.std.proofs.lemmas.Bool.{cases_lt}
use Rattle.std.specs.Int.{int_min}
use Rattle.ranges.specs.Hulls.{shifted, square}
use Rattle.records.specs.declared.instruction.Instruction.{Instruction}
use Rattle.records.specs.declared.instruction.Instruction.TheVariants.{Const, Knob, Add, Sub, Mul, Sqr, Min, Shr}
use Rattle.jobs.specs.Registers.{Before, Wired, no_instruction, value, values}
use Rattle.jobs.specs.Meaning.{OneSolution, Solves}
use Rattle.jobs.proofs.Fills.{fill_at, fill_stops, fill_upto}

-- what holds of j wherever it holds of all below holds of all
strong : (P : ℕ → Type 0) → ((j : ℕ) → ((i : ℕ) → i < j → P i) → P j) → (m j : ℕ) → j < m → P j
strong P step zero j h = absurd (omega arith)
strong P step (suc m) j h = step j (λ i k. strong P step m i (omega arith))

pub by_those_below : (P : ℕ → Type 0) → ((j : ℕ) → ((i : ℕ) → i < j → P i) → P j) → (j : ℕ) → P j
by_those_below P step j = strong P step (suc j) j (omega arith)

-- an instruction's value hangs on earlier registers alone
module _ (knob : ℕ → ℤ) (vs ws : List ℤ) (n j : ℕ) (same : (a : ℕ) → a < j → get_or vs a (pos 0) ≡ get_or ws a (pos 0)) where
  two_same : (f : ℤ → ℤ → ℤ) (a b : ℕ) → (a < j) × (b < j) → f (get_or vs a (pos 0)) (get_or vs b (pos 0)) ≡ f (get_or ws a (pos 0)) (get_or ws b (pos 0))
  two_same f a b w = let p = same a w.0 in let q = same b w.1 in (λ t. f (p t) (q t))

  value_same : (i : Instruction) → Before n j i → value knob i vs ≡ value knob i ws
  value_same (Const c) w = refl
  value_same (Knob m) w = refl
  value_same (Add a b) w = two_same ◌+ℤ◌ a b w
  value_same (Sub a b) w = two_same ◌-ℤ◌ a b w
  value_same (Mul a b) w = two_same ◌*ℤ◌ a b w
  value_same (Sqr a) w = ap square (same a w)
  value_same (Min a b) w = two_same int_min a b w
  value_same (Shr a b) w = ap (shifted b) (same a w)

module _ (program : List Instruction) (knob : ℕ → ℤ) where
  pub values_length : length (values program knob) ≡ length program
  values_length = ⊎_elim
      (λ (h : length (values program knob) < length program). let e = fill_stops (λ i vs. Some (value knob i vs)) program no_instruction h in absurd (cc))
      (λ (h : length program ≤ length (values program knob)). let u = fill_upto (λ i vs. Some (value knob i vs)) program in omega arith)
      (cases_lt (length (values program knob)) (length program))

  module _ (n : ℕ) (w : Wired n program) where
    -- each value by those before it
    pub values_at : (j : ℕ) → j < length program → get_or (values program knob) j (pos 0) ≡ value knob (get_or program j no_instruction) (values program knob)
    values_at j h =
        let l = values_length in
        let e = fill_at (λ i vs. Some (value knob i vs)) program no_instruction (pos 0) j (omega arith) in
        let q : get_or (values program knob) j (pos 0) ≡ value knob (get_or program j no_instruction) (take j (values program knob)) = cc in
        q ∙ value_same knob (take j (values program knob)) (values program knob) n j (λ a b. get_or-take j (values program knob) a (pos 0) b) (get_or program j no_instruction) (w j h)

    only_values : (vs : List ℤ) → Solves program knob vs → (j : ℕ) → j < length program → get_or vs j (pos 0) ≡ get_or (values program knob) j (pos 0)
    only_values vs s = by_those_below (λ j. j < length program → get_or vs j (pos 0) ≡ get_or (values program knob) j (pos 0)) (λ j below h.
        s.each j h ∙ value_same knob vs (values program knob) n j (λ a b. below a b (omega arith)) (get_or program j no_instruction) (w j h) ∙ sym (values_at j h))

pub one_solution : OneSolution
one_solution n program w knob =
    let l = values_length program knob in (
      record { long = l; each = values_at program knob n w },
      λ vs s. let m = s.long in ext_get_or (pos 0) vs (values program knob) (omega arith) (λ i h. only_values program knob n w vs s i (omega arith)),
    )
