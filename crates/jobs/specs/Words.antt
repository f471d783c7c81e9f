-- What is printed of a job.
use Rattle.std.specs.Prelude.{ℕ, List, ◌++◌, length, codes, decimal}
use Rattle.boxes.specs.Boxes.{count}
use Rattle.records.specs.Rules.{Content}

-- the numbers of knobs, instructions, targets and settings
abbrev pub counts_text : Content → List ℕ
counts_text c =
    codes "knobs " ++ (decimal (length c.sides)
    ++ (codes " instructions " ++ (decimal (length c.program)
    ++ (codes " targets " ++ (decimal (length c.targets)
    ++ (codes " settings " ++ decimal (count c.sides)))))))
