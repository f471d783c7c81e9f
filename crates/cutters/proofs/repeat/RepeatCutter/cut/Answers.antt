use Rattle.std.proofs.Common.{arith}
use Rattle.cutters.specs.Cutting.{turns}
use Rattle.cutters.proofs.Turning.{ends_alike, ends_nowhere, ends_over, turns_on}
use Rattle.cutters.proofs.repeat.RepeatCutter.cut.Goals as goal

pub returns-then-not-cut : goal.returns-then-not-cut
returns-then-not-cut g c =
    let s = c.args.self.now in
    let a = ends_nowhere (g.C.Cutter.leaves s.inner) (g.met.C.Cutter.lawful s.inner) c.args.job.now c.args.region.now c.args.rows.now (turns s.times) c.loop-turn._turn c.loop-turn.region c.loop-turn.rows
    c.loop-turn.auto.rows c.loop-turn.invariant (omega arith) c.if-not-cut.ensures.told in
    record { told = a.told; left = a.left; safe = a.safe }

pub returns-then-inside : goal.returns-then-inside
returns-then-inside g c =
    let s = c.args.self.now in
    let was = c.if-not-cut.ensures in
    let a = ends_alike (g.C.Cutter.leaves s.inner) (g.met.C.Cutter.lawful s.inner) c.args.job.now c.args.region.now c.args.rows.now (turns s.times) c.loop-turn._turn c.loop-turn.region c.loop-turn.rows
    c.loop-turn.auto.rows c.loop-turn.invariant c.cut.new.region was.told was.left c.if-inside.ensures.value was.safe.within in
    record { told = a.told; left = a.left; safe = a.safe }

pub loop-turn-preserved : goal.loop-turn-preserved
loop-turn-preserved g c =
    let s = c.args.self.now in
    let was = c.if-not-cut.ensures in
    turns_on (g.C.Cutter.leaves s.inner) (g.met.C.Cutter.lawful s.inner) c.args.job.now c.args.region.now c.args.rows.now (turns s.times) c.loop-turn._turn c.loop-turn.region c.loop-turn.rows
    c.loop-turn.auto.rows c.loop-turn.invariant c.cut.new.region (omega arith) was.told was.left

pub returns : goal.returns
returns g c =
    let s = c.args.self.now in
    let a = ends_over (g.C.Cutter.leaves s.inner) (g.met.C.Cutter.lawful s.inner) c.args.job.now c.args.region.now c.args.rows.now (turns s.times) c.loop-turn._turn c.loop-turn.region c.loop-turn.rows
    c.loop-turn.auto.rows c.loop-turn.invariant (omega arith) in
    record { told = a.told; left = a.left; safe = a.safe }
