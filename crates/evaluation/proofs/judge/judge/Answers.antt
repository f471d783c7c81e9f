use Rattle.std.proofs.Common.{◌≡◌, length, sym, refl, ap, ◌∙◌, subst}
use Rattle.boxes.specs.Views.{sides_of}
use Rattle.boxes.proofs.Nesting.{nested_in}
use Rattle.jobs.specs.Reading.{content_of}
use Rattle.evaluation.specs.Judging.{Truth, concluded, judged}
use Rattle.evaluation.specs.Scratch.{scratch, unfit}
use Rattle.evaluation.proofs.Concluding.{said_here, true_here}
use Rattle.evaluation.proofs.Working.{answered_none, fit_in}
use Rattle.evaluation.proofs.judge.judge.Goals as goal

pub returns : goal.returns
returns g c =
    let k = g.R.Range.kind in
    let L = g.met.R.Range.lawful in
    let j = c.args.job.now in
    let r = c.args.region.now in
    let rows = c.args.rows.now in
    let u = answered_none (unfit (content_of j) (sides_of r) (length rows)) _ _ c.in_ok-evaluate.ensures.told in
    let f = fit_in (content_of j) (sides_of r) (length rows) u in
    let n = nested_in (sides_of r) (sides_of j.fields.start) f.inside in
    let w = c.evaluate.ensures.filled ∙ ap (λ o. scratch o k (content_of j) (sides_of r) rows) u in
    let t = c.targets.ensures in
    let a = c.count-counts.ensures.within in
    let b = c.count-counts.ensures.apart in
    let s : c.conclude.result ≡ judged k (content_of j) (sides_of r) = c.conclude.ensures ∙ (λ i. concluded (t i) (a i) (b i)) ∙ said_here k L j r n _ _ w in
    record {
      told = rw (s, u) refl;
      filled = c.evaluate.ensures.filled;
      truth = subst (Truth (content_of j) (sides_of r)) (sym s) (true_here k L j r n);
    }
