-- The counts of the code.
use Rattle.records.specs.declared.counts.Counts as code
use Rattle.std.specs.Prelude.{ℕ}
use Rattle.records.specs.Layouts.{Counts, ends_at}

-- as three numbers
abbrev pub counted : code.Counts → Counts
counted q = record { knobs = q.knobs; instructions = q.instructions; targets = q.targets }

-- where a record with these counts ends
abbrev pub ends_where : code.Counts → ℕ
ends_where q = ends_at (counted q)
