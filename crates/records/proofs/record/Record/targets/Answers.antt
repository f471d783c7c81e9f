use borrow.Author.Tests.{tests}
use Rattle.std.proofs.Common.{rules}
use Rattle.records.specs.Entries.{target_faults, targets_from}
use Rattle.records.specs.Places.{targets_start}
use Rattle.records.specs.Rules.{no_target}
use Rattle.records.proofs.Filling.{filled_plain}
use Rattle.records.proofs.record.Record.targets.Goals as goal

pub returns : goal.returns
returns c =
    let s = c.args.self.now.bytes.now in
    let q = c.args.self.now.counts in
    let start = targets_start q.knobs q.instructions in
    filled_plain no_target (target_faults s q.instructions start) (targets_from s start) _ q.targets (λ k r h p. search (rules, tests)) c.try_from_fn.result c.try_from_fn.ensures
