use Rattle.std.proofs.Common.{sym, arith}
use Rattle.std.proofs.lemmas.Grind.{common_steps}
use Rattle.boxes.specs.Views.{sides_of}
use Rattle.boxes.proofs.Nesting.{nested_in}
use Rattle.evaluation.proofs.Working.{all_here, evaluated}
use Rattle.evaluation.proofs.evaluate.evaluate.Goals as goal

pub evaluate-requires-clause-knobs : goal.evaluate-requires-clause-knobs
evaluate-requires-clause-knobs g c = (nested_in (sides_of c.args.region.now) (sides_of c.args.job.now.fields.start) (sym c.if-not-inside.ensures.value)).knobs

-- every register is within the bound there
pub unwrap-requires : goal.unwrap-requires
unwrap-requires g c =
    let j = c.args.job.now in
    let r = c.args.region.now in
    let n = nested_in (sides_of r) (sides_of j.fields.start) (sym c.if-not-inside.ensures.value) in
    let all = all_here g.R.Range.kind g.met.R.Range.lawful j r n in
    grind (arith, common_steps, c.evaluate.ensures.told, all)

pub returns-clause-laws : goal.returns-clause-laws
returns-clause-laws g c =
    let j = c.args.job.now in
    let r = c.args.region.now in
    evaluated g.R.Range.kind g.met.R.Range.lawful j r (nested_in (sides_of r) (sides_of j.fields.start) (sym c.if-not-inside.ensures.value)) c.evaluate.new.rows _ c.evaluate.ensures.filled
