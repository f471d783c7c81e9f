-- The turns of an evaluation: one register more, from the rows before it.
use Rattle.std.proofs.Common.{arith, ◌≡◌, ℕ, ◌+◌, ◌<◌, ◌≤◌, List, ◌++◌, length, get_or, take, drop, set, Some, None, sym, refl, ap, ◌∙◌, arith, Ok, Err}
use Rattle.std.proofs.lemmas.List.{take_more_set, drop_all, at_drop_more, length-take-le, take-append-drop}
use Rattle.std.proofs.lemmas.Grind.{common_steps}
use Rattle.boxes.specs.Boxes.{Ends}
use Rattle.boxes.specs.Views.{sides_of}
use Rattle.boxes.specs.declared.region.Region.{Region}
use Rattle.ranges.specs.declared.row.Row.{Row}
use Rattle.ranges.specs.Kind.{Kind, Lawful}
use Rattle.records.specs.declared.instruction.Instruction.{Instruction}
use Rattle.records.specs.declared.fields.Fields.{Fields}
use Rattle.jobs.specs.Meaning.{RowsHold}
use Rattle.jobs.specs.declared.out_of_bound.OutOfBound.{OutOfBound}
use Rattle.jobs.specs.Registers.{all_within, onward, fill, gives, no_instruction, program_of, registers}
use Rattle.jobs.proofs.Holding.{region_sided, rows_hold}
use Rattle.jobs.proofs.Wiring.{region_wired}

module _ (k : Kind) (box : List Ends) (code : List Instruction) (rows : List Row) (n : ℕ) where
  turn : n < length code → fill (gives k box) (drop n code) (take n rows) ≡ onward (take n rows) (fill (gives k box) (drop (n + 1) code)) (gives k box (get_or code n no_instruction) (take n rows))
  unfolding fill
  turn h = at_drop_more (λ c. fill (gives k box) c (take n rows)) code n no_instruction h

  pub turn_some : (r : Row) → n < length code → n < length rows → Some r ≡ gives k box (get_or code n no_instruction) (take n rows) → fill (gives k box) (drop n code) (take n rows) ≡ fill (gives k box) (drop (n + 1) code) (take (n + 1) (set rows n r))
  turn_some r h m g = turn h ∙ ap (onward (take n rows) (fill (gives k box) (drop (n + 1) code))) (sym g) ∙ ap (fill (gives k box) (drop (n + 1) code)) (sym (take_more_set rows n r m))

  pub turn_none : n < length code → None ≡ gives k box (get_or code n no_instruction) (take n rows) → fill (gives k box) (drop n code) (take n rows) ≡ take n rows
  turn_none h g = turn h ∙ ap (onward (take n rows) (fill (gives k box) (drop (n + 1) code))) (sym g)

  pub turns_over : length code ≤ n → fill (gives k box) (drop n code) (take n rows) ≡ take n rows
  unfolding fill
  turns_over h = ap (λ c. fill (gives k box) c (take n rows)) (drop_all n code h)

-- over a region with the job's knobs, where n rows are the registers and the others stayed
pub record Ended (k : Kind) (f : Fields) (r : Region) (rows before : List Row) (n : ℕ) : Type 0 where
  pub count : n ≡ length (registers k (program_of f) (sides_of r))
  pub filled : rows ≡ registers k (program_of f) (sides_of r) ++ drop (length (registers k (program_of f) (sides_of r))) before
  pub holds : RowsHold k (program_of f) (sides_of r) (length (registers k (program_of f) (sides_of r))) rows

pub ended : (k : Kind) → Lawful k → (f : Fields) (r : Region) → length (sides_of r) ≡ length (sides_of f.start) → (rows before : List Row) (n : ℕ) → n ≤ length rows
    → registers k (program_of f) (sides_of r) ≡ take n rows → drop n rows ≡ drop n before → Ended k f r rows before n
ended k L f r q rows before n h e d =
    let count : n ≡ length (registers k (program_of f) (sides_of r)) = sym (ap length e ∙ length-take-le n rows h) in
    let filled = sym (take-append-drop n rows) ∙ (λ t. sym e t ++ d t) ∙ ap (λ j. registers k (program_of f) (sides_of r) ++ drop j before) count in
    record { count = count; filled = filled; holds = rows_hold k L (program_of f) (sides_of r) (region_sided r) (region_wired f r q) _ rows _ refl filled }

-- what is told by how many registers are within the bound
pub told_outside : (n all : ℕ) (e : OutOfBound) → Err e ≡ all_within n all → (n < all) × (e.register ≡ n)
told_outside n all e h = grind (arith, common_steps)

pub told_all : (n all : ℕ) → Ok tt ≡ all_within n all → all ≤ n
told_all n all h = grind (arith, common_steps)
