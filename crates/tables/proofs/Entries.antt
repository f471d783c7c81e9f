-- How many entries a table has.
use Rattle.std.proofs.Common.{ℕ, ◌≤◌, length, arith, length-take}
use Rattle.tables.specs.Tables.{entries}
use Rattle.tables.specs.declared.table.Table.{Table}

pub entries_few : {T : Type 0} {N : ℕ} (t : Table T N) → length (entries t) ≤ N
entries_few t = omega (arith, length-take t.len t.cells)
