use Rattle.std.proofs.Common.{◌≡◌, ◌*◌, ◌^◌, ◌≤◌, map, take}
use Rattle.tables.specs.Tables.{entries}
use Rattle.boxes.specs.Boxes.{count}
use Rattle.boxes.specs.Views.{ends_of}
use Rattle.boxes.proofs.region.Region.count.Given as goal

-- all sides of the region are gone through, and the count is that of the box of the sides so far
abbrev pub invariant-loop-side : goal.invariant-loop-side
invariant-loop-side l = record {
  all : l.side-items ≡ entries l.self.sides;
  value : l.count ≡ count (map ends_of (take l.side-index l.side-items));
  bound : l.count ≤ 2 ^ (15 * l.side-index);
}
