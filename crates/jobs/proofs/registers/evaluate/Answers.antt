use Rattle.std.proofs.Common.{◌<◌, ◌≤◌, length, Some, sym, ap, ◌∙◌, arith}
use Rattle.std.proofs.lemmas.Grind.{common_steps, elements}
use Rattle.boxes.specs.Views.{sides_of}
use Rattle.ranges.specs.Kind.{Valid}
use Rattle.jobs.specs.Registers.{gives, program_of}
use Rattle.jobs.proofs.Fills.{fill_upto}
use Rattle.jobs.proofs.Turns.{turn_some, turn_none, turns_over, ended}
use Rattle.jobs.proofs.Wiring.{region_wired}
use Rattle.jobs.proofs.registers.evaluate.Goals as goal

pub evaluate_one-requires-clause-wired : goal.evaluate_one-requires-clause-wired
evaluate_one-requires-clause-wired g c =
    let e = c.as_slice-instruction-items.ensures in
    let l = ap length e in
    let t = c.loop-k-test.true in
    rw e (region_wired c.args.fields.now c.args.region.now c.requires.knobs c.loop-k.k (omega arith))

pub returns-in_default : goal.returns-in_default
returns-in_default g c =
    let m = g.R.Range.kind in
    let code = program_of c.args.fields.now in
    let box = sides_of c.args.region.now in
    let rows = c.loop-k.rows in
    let k = c.loop-k.k in
    let items = c.as_slice-instruction-items.ensures in
    let l = ap length items in
    let b = c.loop-k-test.true in
    let n : k ≤ length rows = let r = c.requires.room in omega arith in
    let t = rw items at c.in_default.ensures in
    let e = sym c.loop-k.invariant.1 ∙ turn_none m box code rows k (omega arith) t in
    let w = ended m g.met.R.Range.lawful c.args.fields.now c.args.region.now c.requires.knobs rows c.args.rows.now k n e c.loop-k.invariant.2 in
    record { told = grind (arith, common_steps, w.count); few = fill_upto (gives m box) code; filled = w.filled; holds = w.holds }

pub loop-k-preserved : goal.loop-k-preserved
loop-k-preserved g c =
    let m = g.R.Range.kind in
    let code = program_of c.args.fields.now in
    let box = sides_of c.args.region.now in
    let rows = c.loop-k.rows in
    let k = c.loop-k.k in
    let r = c.to_row.result in
    let items = c.as_slice-instruction-items.ensures in
    let l = ap length items in
    let b = c.loop-k-test.true in
    let n : k < length rows = let r = c.requires.room in omega arith in
    let t = ap Some c.to_row.ensures ∙ rw items at c.in-Some.ensures in (
      (let v : Valid m r = ap m.valid c.to_row.ensures ∙ g.met.R.Range.valid c.in-Some.range in let f = c.loop-k.invariant.0 in grind (arith, elements)),
      sym (turn_some m box code rows k r (omega arith) n t) ∙ c.loop-k.invariant.1,
      grind (arith, common_steps, c.loop-k.invariant.2),
    )

pub returns : goal.returns
returns g c =
    let m = g.R.Range.kind in
    let code = program_of c.args.fields.now in
    let box = sides_of c.args.region.now in
    let rows = c.loop-k.rows in
    let k = c.loop-k.k in
    let l = ap length c.as_slice-instruction-items.ensures in
    let d = c.loop-k-test.false in
    let a = c.loop-k.auto.k-end in
    let n : k ≤ length rows = let r = c.requires.room in omega arith in
    let e = sym c.loop-k.invariant.1 ∙ turns_over m box code rows k (omega arith) in
    let w = ended m g.met.R.Range.lawful c.args.fields.now c.args.region.now c.requires.knobs rows c.args.rows.now k n e c.loop-k.invariant.2 in
    record { told = grind (arith, common_steps, w.count); few = fill_upto (gives m box) code; filled = w.filled; holds = w.holds }
