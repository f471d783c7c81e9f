use Rattle.std.proofs.Common.{◌≡◌, length, get_or, ap, arith, w32, w64, SFits}
use Rattle.std.proofs.lemmas.Int.{ints, to_z-of_z}
use Rattle.records.specs.Rules.{no_target}
use Rattle.evaluation.specs.Judging.{taken, target_apart, target_within}
use Rattle.evaluation.proofs.Aiming.{aimed, counted_more}
use Rattle.evaluation.proofs.judge.count.Goals as goal

pub bounds-rows-target : goal.bounds-rows-target
bounds-rows-target g c =
    let e = c.as_slice-target-items.ensures in
    let a = aimed c.args.job.now.fields c.loop-target.target-index (omega (arith, ap length e, c.loop-target-test.true)) in
    rw e (omega (arith, a.there, c.requires))

-- end by end, with the widths of the ends at hand, so that an end worked out otherwise is told by itself
pub loop-target-preserved : goal.loop-target-preserved
loop-target-preserved g c =
    let k = g.R.Range.kind in
    let n = c.loop-target.target-index in
    let targets = c.as_slice-target-items.result.now in
    let t = get_or targets n no_target in
    let row = taken k c.args.rows.now in
    let e = c.as_slice-target-items.ensures in
    let a = aimed c.args.job.now.fields n (omega (arith, ap length e, c.loop-target-test.true)) in
    let al : SFits w32 t.low = rw e a.low in
    let ah : SFits w32 t.high = rw e a.high in
    let wl : SFits w64 t.low = omega (arith, ints) in
    let wh : SFits w64 t.high = omega (arith, ints) in
    let low : c.from-span.result.low ≡ t.low = ap (λ x. x.lo) c.from-span.ensures in
    let high : c.from-span.result.high ≡ t.high = ap (λ x. x.hi) c.from-span.ensures in
    let range = c.from_row-range.ensures in
    let w : c.within.result ≡ target_within k row t = simp (range, low, high, to_z-of_z) at c.within.ensures in
    let p : c.apart.result ≡ target_apart k row t = simp (range, low, high, to_z-of_z) at c.apart.ensures in
    let i = c.loop-target.invariant in
    let u = counted_more (target_within k row) targets n _ _ _ c.loop-target-test.true i.within i.few_within c.from-within.ensures w in
    let v = counted_more (target_apart k row) targets n _ _ _ c.loop-target-test.true i.apart i.few_apart c.from-apart.ensures p in
    record { within = u.is; apart = v.is; few_within = u.few; few_apart = v.few }
