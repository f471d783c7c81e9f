use Rattle.std.proofs.Common.{sym, ◌∙◌, append_assoc}
use Rattle.cutters.proofs.Turning.{something_left}
use Rattle.forward_backward.specs.Backward.{forward_backward}
use Rattle.report.proofs.Leaving.{start_left}
use Rattle.report.proofs.lines.left_text.Goals as goal

pub returns : goal.returns
returns g c =
    let whole = start_left (forward_backward g.R.Range.kind g.R.Narrowing.keeper) c.args.job.now in
    let was = c.if-not-cut.ensures in
    rw (← (sym (something_left _ _ _ (sym was.told) was.left) ∙ whole)) (rw (c.in_ok-text.ensures.ok, append_assoc) at c.sides_text.ensures)
