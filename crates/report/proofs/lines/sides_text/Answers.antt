use Rattle.std.proofs.Common.{rules}
use Rattle.report.proofs.Joining.{joined}
use Rattle.report.proofs.lines.sides_text.Goals as goal

pub loop-side-preserved : goal.loop-side-preserved
loop-side-preserved c = record {
  all = search rules;
  written = joined _ c.loop-side.side-index c.side-item.result _ _ _ c.loop-side-test.true c.side-item.is c.loop-side.invariant.written c.in_ok-write.ensures.bytes;
}
