use Rattle.std.proofs.Common.{◌≡◌, ◌+◌, ◌*◌, ◌^◌, ◌≤◌, length, ap, arith}
use Rattle.std.proofs.lemmas.Grind.{common_steps}
use Rattle.boxes.specs.Boxes.{count}
use Rattle.boxes.specs.Views.{sides_of}
use Rattle.boxes.proofs.Counting.{count_more, numbered, power_below, product_below}
use Rattle.boxes.proofs.Listed.{region_in_order}
use Rattle.tables.proofs.Entries.{entries_few}
use Rattle.boxes.proofs.region.Region.count.Goals as goal

small : (c : goal.After-count) → c.loop-side.count * c.count.result ≤ 2 ^ (15 * (c.loop-side.side-index + 1))
small c = product_below c.loop-side.count c.count.result c.loop-side.side-index c.loop-side.invariant.bound c.count.ensures.bound

pub overflow_mul-count : goal.overflow_mul-count
overflow_mul-count c =
    let f = entries_few c.args.self.now.sides in
    let e = ap length c.loop-side.invariant.all in
    omega (arith, small c, power_below (c.loop-side.side-index + 1) (omega arith))

pub loop-side-preserved : goal.loop-side-preserved
loop-side-preserved c = record {
  all = c.loop-side.invariant.all;
  value = rw c.count.ensures.value (count_more _ c.loop-side.side-index c.loop-side.count c.side-item.result c.loop-side-test.true c.side-item.is c.loop-side.invariant.value);
  bound = small c;
}

pub returns : goal.returns
returns c =
    let f = entries_few c.args.self.now.sides in
    let e = ap length c.loop-side.invariant.all in
    let v : c.loop-side.count ≡ count (sides_of c.args.self.now) = grind (arith, common_steps) in
    record {
      value = v;
      settings = rw v (numbered (sides_of c.args.self.now) (region_in_order c.args.self.now));
      bound = omega (arith, power_below c.loop-side.side-index (omega arith));
    }
