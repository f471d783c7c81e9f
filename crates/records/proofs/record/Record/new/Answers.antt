use Rattle.records.specs.Counted.{counted}
use Rattle.records.proofs.Shapes.{shaped_counts}
use Rattle.records.proofs.record.Record.new.Goals as goal

pub invariant_of-result : goal.invariant_of-result
invariant_of-result c =
    let h = shaped_counts c.args.bytes.now (counted c.in_ok-counts.counts) c.in_ok-counts.ensures in
    record { some_knobs = h.some_knobs; some_instructions = h.some_instructions; some_targets = h.some_targets; ends = h.ends }
