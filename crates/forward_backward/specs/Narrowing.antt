-- The law of narrowing: it loses no numbers that fit the instructions.
use Rattle.std.specs.Prelude.{◌≡◌, ℕ, ◌<◌, List, length, ℤ, pos, Some, None, Option, slice_index_or}
use Rattle.ranges.specs.declared.row.Row.{Row}
use Rattle.ranges.specs.Kind.{Holds, Keeper, Keeping, Kind, Lawful, Valid}
use Rattle.records.specs.declared.instruction.Instruction.{Instruction}
use Rattle.jobs.specs.Registers.{no_row, value}
use Rattle.forward_backward.specs.Operands.{Earlier, operands}

-- each row is a range of the kind and holds its register's number
pub record Holding (k : Kind) (vs : List ℤ) (rows : List Row) : Type 0 where
  pub valid : (a : ℕ) → a < length rows → Valid k (slice_index_or rows a no_row)
  pub holds : (a : ℕ) → a < length rows → Holds k (slice_index_or rows a no_row) (slice_index_or vs a (pos 0))

-- something is left, there are as many rows as before, and each still holds its number
abbrev pub StillHolding : Kind → List ℤ → ℕ → Option (List Row) → Type 0
StillHolding k vs m None = ⊥
StillHolding k vs m (Some rows) = (length rows ≡ m) × Holding k vs rows

-- the number of register j is what the instruction makes of the others
abbrev pub Obeys : (ℕ → ℤ) → List ℤ → Instruction → ℕ → Type 0
Obeys knob vs i j = slice_index_or vs j (pos 0) ≡ value knob i vs

-- whatever numbers the registers hold that fit an instruction, narrowing its operands leaves them held, for every narrowing kind
abbrev pub NarrowingKeeps : Type 0
NarrowingKeeps = (k : Kind) → Lawful k → (n : Keeper) → Keeping k n → (knob : ℕ → ℤ) (vs : List ℤ) (i : Instruction) (j : ℕ) (rows : List Row) →
    Earlier j i → j < length rows → Obeys knob vs i j → Holding k vs rows → StillHolding k vs (length rows) (operands k n i j rows)
