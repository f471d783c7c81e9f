-- The entries of a table, and a table that is made entry by entry.
use Rattle.std.specs.Prelude.{◌≡◌, ℕ, ◌<◌, List, length, take, Ok, Err, Result, slice_index_or}
use Rattle.tables.specs.declared.table.Table.{Table}

-- the entries, first to last
abbrev pub entries : {T : Type 0} {N : ℕ} → Table T N → List T
entries t = take t.len t.cells

-- xs are n entries, and each is what is made of its number, where "makes k r" says that k may give r
pub record Made {T E : Type 0} (makes : ℕ → Result T E → Type 0) (n : ℕ) (xs : List T) : Type 0 where
  pub long : length xs ≡ n
  pub each : (k : ℕ) (d : T) → k < n → makes k (Ok (slice_index_or xs k d))

-- e is the failure of the first of the numbers 0 to n - 1 that is made with one
pub record Failed {T E : Type 0} (makes : ℕ → Result T E → Type 0) (n : ℕ) (e : E) : Type 0 where
  pub at : ℕ
  pub below : at < n
  pub before : (k : ℕ) → k < at → (x : T) × makes k (Ok x)
  pub fails : makes at (Err e)
