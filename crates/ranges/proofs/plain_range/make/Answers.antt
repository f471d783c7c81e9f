use Rattle.std.proofs.Common.{sym, arith}
use Rattle.std.proofs.lemmas.Int.{ints}
use Rattle.std.proofs.lemmas.Bool.{both_ways}
use Rattle.ranges.specs.Spans.{span_ends}
use Rattle.ranges.specs.Fitting.{fit_in, fit_out, plain_is, plain_no}
use Rattle.ranges.proofs.plain_range.make.Goals as goal

pub returns-then-not-fits : goal.returns-then-not-fits
returns-then-not-fits c = sym (plain_no (span_ends c.args.span) (λ o. both_ways _ (sym c.if-not-fits.ensures) (fit_out _ o)))

pub returns : goal.returns
returns c =
    let s = c.args.span in
    let o = fit_in (span_ends s) (sym c.if-not-fits.ensures) in
    plain_is _ _ s.low s.high (omega (arith, ints)) (omega (arith, ints)) o
