use Rattle.std.proofs.Common.{length, arith}
use Rattle.std.proofs.lemmas.Grind.{common_steps}
use Rattle.boxes.specs.Views.{sides_of}
use Rattle.boxes.proofs.Nesting.{nested_in}
use Rattle.jobs.specs.Reading.{content_of}
use Rattle.evaluation.specs.Scratch.{hindrance}
use Rattle.evaluation.proofs.Working.{answered_none, fit_in}
use Rattle.cutters.proofs.Safety.{safe}
use Rattle.forward_backward.specs.Backward.{forward_backward}
use Rattle.forward_backward.specs.Lawfulness.{forward_backward_lawful}
use Rattle.forward_backward.proofs.forward_backward.ForwardBackwardCutter.cut.Goals as goal

pub narrow_box-requires-clause-knobs : goal.narrow_box-requires-clause-knobs
narrow_box-requires-clause-knobs g c =
    let j = c.args.job.now in
    let r = c.args.region.now in
    let rows = c.args.rows.now in
    let u = answered_none (hindrance j r rows) _ _ c.in-Ok.ensures.told in
    (nested_in (sides_of r) (sides_of j.fields.start) (fit_in (content_of j) (sides_of r) (length rows) u).inside).knobs

pub returns-in-None-clause-safe : goal.returns-in-None-clause-safe
returns-in-None-clause-safe g c =
    let k = g.R.Range.kind in
    let n = g.R.Narrowing.keeper in
    safe (forward_backward k n) (forward_backward_lawful k g.met.R.Range.lawful n g.met.R.Narrowing.keeps) c.args.job.now c.args.region.now c.args.rows.now _ _
    (grind (arith, common_steps)) (grind (arith, common_steps))

pub returns-in-Some-clause-safe : goal.returns-in-Some-clause-safe
returns-in-Some-clause-safe g c =
    let k = g.R.Range.kind in
    let n = g.R.Narrowing.keeper in
    safe (forward_backward k n) (forward_backward_lawful k g.met.R.Range.lawful n g.met.R.Narrowing.keeps) c.args.job.now c.args.region.now c.args.rows.now _ _
    (grind (arith, common_steps)) (grind (arith, common_steps))
