use Rattle.std.proofs.Common.{◌≡◌, ◌+◌, ◌<◌, length, get_or, drop, sym, ap, ◌∙◌, arith, w64, SFits}
use Rattle.std.proofs.lemmas.Int.{ints, to_z-of_z}
use Rattle.tables.specs.Tables.{entries}
use Rattle.records.specs.Rules.{no_target}
use Rattle.evaluation.proofs.Aiming.{aimed as target_aimed}
use Rattle.cutters.specs.Cutting.{and_then}
use Rattle.forward_backward.specs.Operands.{aimed, narrowed}
use Rattle.forward_backward.specs.Turns.{aimed_turn, left_none, left_some, none_left}
use Rattle.forward_backward.proofs.backward.aim.Goals as goal

pub narrow-requires : goal.narrow-requires
narrow-requires g c =
    let e = c.as_slice-target-items.ensures in
    let a = target_aimed c.args.job.now.fields c.loop-target.target-index (omega (arith, ap length e, c.loop-target-test.true)) in
    rw e (omega (arith, a.there, c.requires, c.loop-target.auto.rows))

-- end by end in both that follow, with the widths of the ends at hand, so that an end worked out otherwise is told by itself
pub returns-in_err-narrow : goal.returns-in_err-narrow
returns-in_err-narrow g c =
    let k = g.R.Range.kind in
    let n = g.R.Narrowing.keeper in
    let f = c.args.job.now.fields in
    let i = c.loop-target.target-index in
    let targets = entries f.targets in
    let t = get_or targets i no_target in
    let e = c.as_slice-target-items.ensures in
    let h : i < length targets = omega (arith, ap length e, c.loop-target-test.true) in
    let a = target_aimed f i h in
    let al = a.low in
    let ah = a.high in
    let wl : SFits w64 t.low = omega (arith, ints) in
    let wh : SFits w64 t.high = omega (arith, ints) in
    let low : c.from.result.low ≡ t.low = ap (λ x. x.lo) (rw e at c.from.ensures) in
    let high : c.from.result.high ≡ t.high = ap (λ x. x.hi) (rw e at c.from.ensures) in
    let left = left_none (narrowed k n c.loop-target.rows t.register (record { lo = t.low; hi = t.high })) c.narrow.new.rows (simp (low, high, to_z-of_z, e) at c.in_err-narrow.ensures) in
    rw c.from_residual.ensures (none_left _ _ (sym c.loop-target.invariant ∙ aimed_turn k n targets i c.loop-target.rows h ∙ ap (λ o. and_then o (aimed k n (drop (i + 1) targets))) left))

pub loop-target-preserved : goal.loop-target-preserved
loop-target-preserved g c =
    let k = g.R.Range.kind in
    let n = g.R.Narrowing.keeper in
    let f = c.args.job.now.fields in
    let i = c.loop-target.target-index in
    let targets = entries f.targets in
    let t = get_or targets i no_target in
    let e = c.as_slice-target-items.ensures in
    let h : i < length targets = omega (arith, ap length e, c.loop-target-test.true) in
    let a = target_aimed f i h in
    let al = a.low in
    let ah = a.high in
    let wl : SFits w64 t.low = omega (arith, ints) in
    let wh : SFits w64 t.high = omega (arith, ints) in
    let low : c.from.result.low ≡ t.low = ap (λ x. x.lo) (rw e at c.from.ensures) in
    let high : c.from.result.high ≡ t.high = ap (λ x. x.hi) (rw e at c.from.ensures) in
    let left = left_some (narrowed k n c.loop-target.rows t.register (record { lo = t.low; hi = t.high })) c.narrow.new.rows (simp (low, high, to_z-of_z, e) at c.in_ok-narrow.ensures) in
    sym (aimed_turn k n targets i c.loop-target.rows h ∙ ap (λ o. and_then o (aimed k n (drop (i + 1) targets))) left) ∙ c.loop-target.invariant
