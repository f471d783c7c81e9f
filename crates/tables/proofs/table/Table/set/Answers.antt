use Rattle.std.proofs.Common.{arith, length-take}
use Rattle.std.proofs.Math.Seq.{take-set-lt}
use Rattle.tables.proofs.table.Table.set.Goals as goal

pub returns : goal.returns
returns g c =
    let t = c.args.self.now in
    take-set-lt t.len t.cells c.args.at c.args.entry (omega (arith, c.requires, length-take t.len t.cells))
