use Rattle.std.proofs.Common.{slice_index_or}
use Rattle.std.proofs.lemmas.Result.{err_from_is_err_and}
use Rattle.tables.specs.Tables.{entries}
use Rattle.tables.proofs.table.Table.try_from_fn.Goals as goal

-- the entries before the failure are those of the table so far
pub returns-in_err-make : goal.returns-in_err-make
returns-in_err-make g c =
    let p = err_from_is_err_and c.from_residual.result c.from_residual.ensures.1 in
    rw (p.1, p.2) (record {
      at = c.loop-k.k;
      below = c.loop-k-test.true;
      before = λ k h. (slice_index_or (entries c.loop-k.table) k c.args.blank, c.loop-k.invariant.each k c.args.blank h);
      fails = c.in_err-make.ensures;
    })
