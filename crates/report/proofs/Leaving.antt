-- What a cutter leaves of a job's whole start box.
use Rattle.std.proofs.Common.{◌≡◌, length}
use Rattle.std.proofs.lemmas.Bool.{le-ltb}
use Rattle.jobs.specs.declared.job.Job.{Job}
use Rattle.jobs.specs.Reading.{content_of}
use Rattle.jobs.specs.Registers.{program_of}
use Rattle.tables.proofs.Entries.{entries_few}
use Rattle.cutters.specs.Cutting.{Meaning, left_with}

-- with 64 rows it is what the cutter's meaning says
pub start_left : (f : Meaning) (j : Job) → left_with 64 f (content_of j) (content_of j).sides ≡ f (content_of j) (content_of j).sides
start_left f j = rw (le-ltb 64 (length (program_of j.fields)) (entries_few j.fields.program))
