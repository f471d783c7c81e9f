use Rattle.std.proofs.Common.{◌≡◌, ◌≤◌, take, count_by}
use Rattle.evaluation.specs.Judging.{taken, target_apart, target_within}
use Rattle.evaluation.proofs.judge.count.Given as goal

-- the targets so far are counted
abbrev pub invariant-loop-target : goal.invariant-loop-target
invariant-loop-target g l =
    let k = g.R.Range.kind in
    let counted = take l.target-index l.target-items in
    record {
      within : l.within ≡ count_by (target_within k (taken k l.rows)) counted;
      apart : l.apart ≡ count_by (target_apart k (taken k l.rows)) counted;
      few_within : l.within ≤ l.target-index;
      few_apart : l.apart ≤ l.target-index;
    }
