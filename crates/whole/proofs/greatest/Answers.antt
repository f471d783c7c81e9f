use Rattle.std.proofs.Common.{◌≡◌, w64, to_z, of_z, rules}
use Rattle.whole.specs.Corners.{greatest4}
use Rattle.whole.proofs.Corners.{greatest_of}
use Rattle.whole.proofs.greatest.Goals as goal

pub returns : goal.returns
returns c =
    let e : to_z w64 (of_z w64 c.max-3.result) ≡ greatest4 c.args.a c.args.b c.args.c c.args.d = search rules in
    record { value = e; greatest = greatest_of c.args.a c.args.b c.args.c c.args.d _ e }
