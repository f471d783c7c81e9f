use Rattle.std.proofs.Common.{◌≡◌, ◌++◌, map, take, string_bytes}
use Rattle.tables.specs.Tables.{entries}
use Rattle.boxes.specs.Views.{ends_of}
use Rattle.report.specs.Lines.{sides_text}
use Rattle.report.proofs.lines.sides_text.Given as goal

-- the sides so far are written
abbrev pub invariant-loop-side : goal.invariant-loop-side
invariant-loop-side l = record {
  all : l.side-items ≡ entries l.region.sides;
  written : string_bytes l.text ≡ string_bytes l.initial.text ++ sides_text (map ends_of (take l.side-index l.side-items));
}
