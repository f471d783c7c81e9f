use Rattle.std.proofs.Common.{◌≡◌, take, drop}
use Rattle.boxes.specs.Views.{sides_of}
use Rattle.jobs.specs.Registers.{AllValid, fill, gives, program_of, registers}
use Rattle.jobs.proofs.registers.evaluate.Given as goal

-- the first k rows are the first k registers, what is left gives the rest, and the rows past them stay
abbrev pub invariant-loop-k : goal.invariant-loop-k
invariant-loop-k g l =
    let m = g.R.Range.kind in
    let box = sides_of l.region in
    AllValid m l.rows l.k
    × (fill (gives m box) (drop l.k (program_of l.fields)) (take l.k l.rows) ≡ registers m (program_of l.fields) box)
    × (drop l.k l.rows ≡ drop l.k l.initial.rows)
