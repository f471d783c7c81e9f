use Rattle.report.proofs.lines.accepted_line.Goals as goal

pub returns : goal.returns
returns c = rw (c.judge_start-plain.ensures.value, c.judge_start-raster.ensures.value) at c.format.ensures.ok
