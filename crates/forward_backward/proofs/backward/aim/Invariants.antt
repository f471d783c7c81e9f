use Rattle.std.proofs.Common.{◌≡◌, drop}
use Rattle.jobs.specs.Reading.{content_of}
use Rattle.forward_backward.specs.Operands.{aimed}
use Rattle.forward_backward.proofs.backward.aim.Given as goal

-- the targets that are left give what all of them give
abbrev pub invariant-loop-target : goal.invariant-loop-target
invariant-loop-target g l =
    let a = aimed g.R.Range.kind g.R.Narrowing.keeper in
    a (drop l.target-index (content_of l.job).targets) l.rows ≡ a (content_of l.job).targets l.initial.rows
