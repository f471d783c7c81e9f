use Rattle.std.proofs.Common.{◌≡◌, ◌≤◌, length, take}
use Rattle.boxes.specs.Views.{sides_of}
use Rattle.jobs.specs.Reading.{content_of}
use Rattle.forward_backward.specs.Backward.{backward, box_of}
use Rattle.forward_backward.proofs.backward.all_backward.Given as goal

-- the instructions that are left are the first ones, and give what all of them give
abbrev pub invariant-loop-instruction : goal.invariant-loop-instruction
invariant-loop-instruction g l =
    let all = (content_of l.job).program in
    let b = backward g.R.Range.kind g.R.Narrowing.keeper all in
    record {
      few : length l.program ≤ length all;
      first : l.program ≡ take (length l.program) all;
      same : box_of (b (length l.program) (record { rows = l.rows; box = sides_of l.left })) ≡ box_of (b (length all) (record { rows = l.initial.rows; box = sides_of l.initial.left }));
      knobs : length (sides_of l.left) ≡ length (sides_of l.initial.left);
    }

abbrev pub decreases-loop-instruction : goal.decreases-loop-instruction
decreases-loop-instruction g l = length l.program
