use Rattle.std.proofs.Common.{◌≡◌, sym, subst, rules}
use Rattle.ranges.specs.Kind.{Kept, rowed}
use Rattle.ranges.specs.Plains.{plain_keeper, plain_kind, plain_row}
use Rattle.ranges.specs.Fitting.{plain_valid}
use Rattle.ranges.specs.Lawfulness.{plain_keeps}
use Rattle.ranges.proofs.plain_range.PlainNarrowing.keep.Goals as goal

pub returns : goal.returns
returns c =
    let a = plain_row c.args.self.now in
    let s = c.args.span in
    let e : rowed plain_row c.make.result ≡ plain_keeper.kept a s.low s.high = search rules in
    record { value = e; exact = subst (Kept plain_kind a s.low s.high) (sym e) (plain_keeps a s.low s.high (plain_valid c.args.self.now)) }
