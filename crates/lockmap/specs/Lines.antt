-- The line that is printed for a record.
use Rattle.std.specs.Prelude.{ℕ, List, ◌++◌, Ok, Err, codes, Result}
use Rattle.records.specs.declared.reason.Refusal.{Refusal}
use Rattle.records.specs.Reasons.{refused}
use Rattle.records.specs.Rules.{Content}
use Rattle.jobs.specs.Words.{counts_text}

-- what is said of a job
abbrev pub accepted : Content → List ℕ
accepted c = codes "accepted " ++ counts_text c

-- the line for an answer of the reading
abbrev pub said : Result Content Refusal → List ℕ
said (Ok c) = accepted c
said (Err d) = refused d
