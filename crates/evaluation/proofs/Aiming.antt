-- The targets of a job, and counts of them.
use Rattle.std.proofs.Common.{◌≡◌, ℕ, ◌+◌, ◌^◌, ◌<◌, ◌≤◌, Bool, true, false, ltb, List, length, get_or, take, pos, neg_ℤ, count_by, sym, arith, w32, SFits}
use mir.Val.{bool_byte}
use Rattle.std.proofs.lemmas.Int.{ints}
use Rattle.std.proofs.lemmas.List.Sums.{count_by_more_no, count_by_more_yes}
use Rattle.std.proofs.lemmas.Bool.{and_parts, ltb-true}
use Rattle.boxes.proofs.Goods.{between_in}
use Rattle.tables.specs.Tables.{entries}
use Rattle.records.specs.declared.fields.Fields.{Fields}
use Rattle.records.specs.declared.target.Target.{Target}
use Rattle.records.specs.Rules.{bounded, good_target, no_target}
use Rattle.records.proofs.Runs.{every_at}

-- a target names a register that there is, and its ends fit 32 bits
pub record Aimed (registers : ℕ) (t : Target) : Type 0 where
  pub there : t.register < registers
  pub low : SFits w32 t.low
  pub high : SFits w32 t.high

pub aimed_by : (registers : ℕ) (t : Target) → good_target registers t ≡ true → Aimed registers t
aimed_by registers t e =
    let p = and_parts (ltb t.register registers) _ e in
    let q = and_parts (bounded t.low) _ p.1 in
    let a = between_in (neg_ℤ (pos (2 ^ 30))) t.low (pos (2 ^ 30)) q.0 in
    let b = between_in t.low t.high (pos (2 ^ 30)) q.1 in
    record { there = ltb-true _ _ p.0; low = omega (arith, ints); high = omega (arith, ints) }

pub aimed : (f : Fields) (n : ℕ) → n < length (entries f.targets) → Aimed (length (entries f.program)) (get_or (entries f.targets) n no_target)
aimed f n h = aimed_by (length (entries f.program)) (get_or (entries f.targets) n no_target) (every_at (λ _ x. good_target (length (entries f.program)) x) 0 (entries f.targets) no_target f.aimed n h)

-- one target more is counted where the test says so
pub record Counted (p : Target → Bool) (xs : List Target) (n m : ℕ) : Type 0 where
  pub is : m ≡ count_by p (take n xs)
  pub few : m ≤ n

pub counted_more : (p : Target → Bool) (xs : List Target) (n m v : ℕ) (b : Bool) → n < length xs → m ≡ count_by p (take n xs) → m ≤ n →
    v ≡ bool_byte b → b ≡ p (get_or xs n no_target) → Counted p xs (n + 1) (m + v)
counted_more p xs n m v true h e u q r = let k = count_by_more_yes p xs n no_target h (sym r) in record { is = omega arith; few = omega arith }
counted_more p xs n m v false h e u q r = let k = count_by_more_no p xs n no_target h (sym r) in record { is = omega arith; few = omega arith }
