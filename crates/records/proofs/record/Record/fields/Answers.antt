-- What was read without a fault keeps the rules of the struct.
use Rattle.std.proofs.Common.{arith}
use Rattle.std.proofs.lemmas.List.{length-map}
use Rattle.tables.specs.Tables.{entries}
use Rattle.boxes.specs.Views.{ends_of}
use Rattle.records.proofs.Goods.{limit_kept, listed_long, program_kept, targets_kept}
use Rattle.records.proofs.record.Record.fields.Goals as goal

pub invariant_of-result : goal.invariant_of-result
invariant_of-result c =
    let r = c.args.self.now in
    record { some = omega (arith, listed_long _ _ r.counts.knobs _ c.in_ok-sides.ensures, length-map (entries c.in_ok-sides.field-0) ends_of, r.some_knobs) }

pub invariant_of-result-2 : goal.invariant_of-result-2
invariant_of-result-2 c =
    let r = c.args.self.now in
    let s = r.bytes.now in
    let q = r.counts in
    let l = limit_kept s _ c.in_ok-limit.ensures in
    let knobs = listed_long _ _ q.knobs _ c.in_ok-sides.ensures in
    let registers = listed_long _ _ q.instructions _ c.in_ok-program.ensures in
    let goals = listed_long _ _ q.targets _ c.in_ok-targets.ensures in
    record {
      positive = l.0;
      limited = l.1;
      working = omega (arith, registers, r.some_instructions);
      aiming = omega (arith, goals, r.some_targets);
      programmed = rw knobs (program_kept s q.knobs _ q.instructions _ c.in_ok-program.ensures);
      aimed = rw registers (targets_kept s q.instructions _ q.targets _ c.in_ok-targets.ensures);
    }
