use borrow.Author.Tests.{tests}
use Rattle.std.proofs.Common.{rules, pos}
use Rattle.records.specs.declared.instruction.Instruction.TheVariants.{Const}
use Rattle.records.specs.Entries.{instruction_faults, instructions_from}
use Rattle.records.specs.Places.{program_start}
use Rattle.records.proofs.Filling.{filled_plain}
use Rattle.records.proofs.record.Record.program.Goals as goal

pub returns : goal.returns
returns c =
    let s = c.args.self.now.bytes.now in
    let q = c.args.self.now.counts in
    filled_plain (Const (pos 0)) (instruction_faults s q.knobs (program_start q.knobs)) (instructions_from s (program_start q.knobs)) _ q.instructions (λ k r h p. search (rules, tests)) c.try_from_fn.result c.try_from_fn.ensures
