use Rattle.std.proofs.Common.{◌≡◌, ◌-◌, length}
use Rattle.boxes.specs.Views.{sides_of}
use Rattle.jobs.specs.Reading.{content_of}
use Rattle.cutters.specs.Cutting.{again, left_with, turns}
use Rattle.cutters.proofs.repeat.RepeatCutter.cut.Given as goal

-- the turns that are left give what all of them give
abbrev pub invariant-loop-turn : goal.invariant-loop-turn
invariant-loop-turn g l =
    let f = left_with (length l.initial.rows) (g.C.Cutter.leaves l.self.inner) (content_of l.job) in
    again f (turns l.self.times - l._turn) (sides_of l.region) ≡ again f (turns l.self.times) (sides_of l.initial.region)
