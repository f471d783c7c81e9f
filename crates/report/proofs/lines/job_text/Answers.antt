use Rattle.report.proofs.lines.job_text.Goals as goal

pub returns : goal.returns
returns c = rw (c.in_ok-first.ensures, c.in_ok-plain.ensures, c.in_ok-raster.ensures) at c.format.ensures.ok
