use borrow.Author.Tests.{tests}
use Rattle.std.proofs.Common.{rules}
use Rattle.boxes.specs.Views.{ends_of}
use Rattle.boxes.proofs.Counting.{zero_side}
use Rattle.records.specs.Entries.{side_faults, sides_from}
use Rattle.records.specs.Places.{sides_start}
use Rattle.records.proofs.Filling.{filled}
use Rattle.records.proofs.record.Record.sides.Goals as goal

pub returns : goal.returns
returns c =
    let s = c.args.self.now.bytes.now in
    filled zero_side ends_of (side_faults s sides_start) (sides_from s sides_start) _ c.args.self.now.counts.knobs (λ k r h p. search (rules, tests)) c.try_from_fn.result c.try_from_fn.ensures
