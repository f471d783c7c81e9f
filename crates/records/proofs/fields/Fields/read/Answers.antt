-- The verdict is the layout's and then the fields'; an accepted record is the encoding of what was read; a refusal tells the broken rule that is looked at first.
use Rattle.std.proofs.Common.{Err, arith}
use Rattle.std.proofs.lemmas.Result.{err_from_is_err_and}
use Rattle.records.specs.Counted.{counted}
use Rattle.records.proofs.Shapes.{no_layout, whole}
use Rattle.records.proofs.Exactly.{exact_fields}
use Rattle.records.proofs.Firsts.{told_first}
use Rattle.records.proofs.fields.Fields.read.Goals as goal

pub returns-in_err-new : goal.returns-in_err-new
returns-in_err-new c =
    let p = err_from_is_err_and c.from_residual.result c.from_residual.ensures.1 in
    let t = no_layout c.args.bytes.now _ c.in_err-new.ensures.counts in
    rw (p.1, p.2) (record {
      told = t;
      exact = exact_fields c.args.bytes.now (Err _) (λ i. omega (arith, c.type_inv.bytes i)) t;
      first = told_first c.args.bytes.now (Err _) t;
    })

pub returns : goal.returns
returns c =
    let read = rw c.in_ok-new.ensures.bytes at c.fields.ensures in
    let t = whole c.args.bytes.now (counted c.in_ok-new.field-0.counts) c.in_ok-new.ensures.counts _ read in
    record {
      told = t;
      exact = exact_fields c.args.bytes.now c.fields.result (λ i. omega (arith, c.type_inv.bytes i)) t;
      first = told_first c.args.bytes.now c.fields.result t;
    }
