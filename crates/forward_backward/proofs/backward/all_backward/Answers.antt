use Rattle.std.proofs.Common.{None, length, sym, ap, ◌∙◌, subst, arith}
use Rattle.boxes.specs.Views.{sides_of}
use Rattle.jobs.specs.Reading.{content_of}
use Rattle.jobs.specs.Registers.{no_instruction}
use Rattle.jobs.proofs.Wiring.{wired}
use Rattle.forward_backward.specs.Backward.{State, box_of}
use Rattle.forward_backward.specs.Told.{boxed}
use Rattle.forward_backward.specs.Turns.{AsLong, backward_over, turned_long, turned_none, turned_some}
use Rattle.forward_backward.proofs.Lasts.{earlier_first, last_at, last_turn}
use Rattle.forward_backward.proofs.backward.all_backward.Goals as goal

pub turn-requires-clause-wired : goal.turn-requires-clause-wired
turn-requires-clause-wired g c =
    let all = (content_of c.args.job.now).program in
    let i = c.loop-instruction.invariant in
    let s = c.in-Some.ensures.cases in
    let e = last_at all c.loop-instruction.program.now c.in-Some.earlier.now c.in-Some.field-0-0.now s i.first no_instruction in
    rw (i.knobs ∙ c.requires.knobs, e) (wired (length (content_of c.args.job.now).sides) all c.args.job.now.fields.programmed (length c.in-Some.earlier.now) (omega (arith, s.1, i.few)))

pub returns-in_err-left : goal.returns-in_err-left
returns-in_err-left g c =
    let i = c.loop-instruction.invariant in
    ap boxed c.from_residual.ensures
    ∙ sym (last_turn g.R.Range.kind g.R.Narrowing.keeper (content_of c.args.job.now).program c.loop-instruction.program.now c.in-Some.earlier.now c.in-Some.field-0-0.now c.in-Some.ensures.cases i.first _ None (turned_none _ c.turn.new.rows c.in_err-left.ensures))
    ∙ i.same

pub loop-instruction-preserved : goal.loop-instruction-preserved
loop-instruction-preserved g c =
    let k = g.R.Range.kind in
    let n = g.R.Narrowing.keeper in
    let all = (content_of c.args.job.now).program in
    let i = c.loop-instruction.invariant in
    let s = c.in-Some.ensures.cases in
    let x = c.in-Some.field-0-0.now in
    let at : State = record { rows = c.loop-instruction.rows; box = sides_of c.loop-instruction.left } in
    let t = turned_some _ c.in_ok-left.left c.turn.new.rows c.in_ok-left.ensures in
    record {
      few = omega (arith, s.1, i.few);
      first = earlier_first all c.loop-instruction.program.now c.in-Some.earlier.now x s i.first;
      same = sym (last_turn k n all c.loop-instruction.program.now c.in-Some.earlier.now x s i.first at _ t) ∙ i.same;
      knobs = subst (λ o. AsLong at.box (box_of o)) t (turned_long k n x (length c.in-Some.earlier.now) at) ∙ i.knobs;
    }

pub returns : goal.returns
returns g c =
    let all = (content_of c.args.job.now).program in
    let at : State = record { rows = c.loop-instruction.rows; box = sides_of c.loop-instruction.left } in
    sym (ap box_of (backward_over g.R.Range.kind g.R.Narrowing.keeper all (length c.loop-instruction.program.now) at (omega (arith, c.in_default.ensures.cases))))
    ∙ c.loop-instruction.invariant.same
