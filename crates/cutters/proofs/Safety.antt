-- What a lawful cutter's answer says of the box that it was lent.
use Rattle.std.proofs.Common.{◌≡◌, Bool, List, length, get_or, ℤ, is_some, Some, None, Option, unwrap_or, sym, ap, arith}
use Rattle.std.proofs.lemmas.Bool.{false≢true, true≢false}
use Rattle.tables.specs.Tables.{entries}
use Rattle.tables.proofs.Entries.{entries_few}
use Rattle.boxes.specs.Boxes.{Ends, In}
use Rattle.boxes.specs.Views.{sides_of}
use Rattle.boxes.specs.declared.region.Region.{Region}
use Rattle.boxes.proofs.Counting.{zero_side}
use Rattle.boxes.proofs.Listed.{knobs_long, side_at}
use Rattle.ranges.specs.declared.row.Row.{Row}
use Rattle.records.specs.Rules.{Content}
use Rattle.jobs.specs.declared.job.Job.{Job}
use Rattle.jobs.specs.Meaning.{MayLock}
use Rattle.jobs.specs.Reading.{content_of}
use Rattle.jobs.proofs.Standing.{job_sound, side_good}
use Rattle.cutters.specs.Cutting.{Lawful, LeftIn, Meaning, Proper, Safe, StillIn, cut_to}
use Rattle.cutters.specs.Lawfulness.{rows_lawful}

-- a region is a box of knobs' sides
pub region_proper : (r : Region) → Proper (sides_of r)
region_proper r =
    let k = knobs_long r in
    let some = r.some in
    let few = entries_few r.sides in
    record {
      some = omega arith;
      few = omega arith;
      sides = λ n h. rw (side_at r n zero_side (omega arith)) (side_good (get_or (entries r.sides) n zero_side));
    }

safe_by : (c : Content) (box : List Ends) (o : Option (List Ends)) → LeftIn box o → ((setting : List ℤ) → In box setting → MayLock c setting → StillIn setting o) → Safe c box (is_some o) (unwrap_or o box)
safe_by c box None l k = record { within = λ setting i. i; kept = λ e. absurd (false≢true e); none = λ e setting i m. k setting i m }
safe_by c box (Some a) l k = record { within = l.1; kept = λ e. k; none = λ e. absurd (true≢false e) }

-- the answer by equations is safe
pub safe : (f : Meaning) → Lawful f → (j : Job) (r : Region) (rows : List Row) (answer : Bool) (after : List Ends) →
    answer ≡ is_some (cut_to f j r rows) → after ≡ unwrap_or (cut_to f j r rows) (sides_of r) → Safe (content_of j) (sides_of r) answer after
safe f F j r rows answer after e q =
    let L = rows_lawful (length rows) f F in
    let c = content_of j in
    let b = sides_of r in
    let s = job_sound j in
    let p = region_proper r in
    rw (e, q) (safe_by c b (cut_to f j r rows) (L.inside c b s p) (λ setting i m. L.keeps c b s p setting i m))

-- what every cut ensures
pub record Answers (f : Meaning) (j : Job) (r : Region) (rows : List Row) (answer : Bool) (after : List Ends) : Type 0 where
  pub told : answer ≡ is_some (cut_to f j r rows)
  pub left : after ≡ unwrap_or (cut_to f j r rows) (sides_of r)
  pub safe : Safe (content_of j) (sides_of r) answer after

module _ (f : Meaning) (F : Lawful f) (j : Job) (r : Region) (rows : List Row) where
  pub left_is : (o : Option (List Ends)) → cut_to f j r rows ≡ o → Answers f j r rows (is_some o) (unwrap_or o (sides_of r))
  left_is o e =
      let t = ap is_some (sym e) in
      let l = ap (λ x. unwrap_or x (sides_of r)) (sym e) in
      record { told = t; left = l; safe = safe f F j r rows _ _ t l }
