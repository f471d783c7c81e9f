use Rattle.std.proofs.Common.{◌∙◌, arith}
use Rattle.std.proofs.lemmas.Int.{to_z-of_z}
use Rattle.ranges.specs.Fitting.{plain_at}
use Rattle.ranges.proofs.plain_range.PlainRange.mul.Goals as goal

-- end by end, so that an end worked out otherwise is told by itself
pub returns : goal.returns
returns c = c.make.ensures ∙ plain_at _ _ _ _ (grind (arith, to_z-of_z)) (grind (arith, to_z-of_z))
