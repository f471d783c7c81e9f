use Rattle.std.proofs.Common.{◌≡◌, w64, to_z, of_z, rules}
use Rattle.whole.specs.Corners.{least4}
use Rattle.whole.proofs.Corners.{least_of}
use Rattle.whole.proofs.least.Goals as goal

pub returns : goal.returns
returns c =
    let e : to_z w64 (of_z w64 c.min-3.result) ≡ least4 c.args.a c.args.b c.args.c c.args.d = search rules in
    record { value = e; least = least_of c.args.a c.args.b c.args.c c.args.d _ e }
