use Rattle.tables.specs.Tables.{Made, entries}
use Rattle.tables.proofs.table.Table.try_from_fn.Given as goal

-- the entries so far are made
abbrev pub invariant-loop-k : goal.invariant-loop-k
invariant-loop-k g l = Made (goal.F-post g l.make) l.k (entries l.table)
