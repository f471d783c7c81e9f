-- What a job of the code says keeps every rule.
use Rattle.std.proofs.Common.{◌≡◌, ℕ, ◌+◌, true, List, [], ◌∷◌, map, refl, arith}
use Rattle.std.proofs.lemmas.Bool.{and_from}
use Rattle.tables.specs.Tables.{entries}
use Rattle.tables.proofs.Entries.{entries_few}
use Rattle.boxes.specs.Boxes.{good_side}
use Rattle.boxes.specs.Views.{ends_of}
use Rattle.boxes.specs.declared.side.Side.{Side}
use Rattle.boxes.proofs.Goods.{good_out}
use Rattle.boxes.proofs.Listed.{knobs_long}
use Rattle.records.specs.declared.fields.Fields.{Fields}
use Rattle.records.specs.Rules.{Keeps, every}
use Rattle.records.specs.Verdicts.{content}
use Rattle.jobs.specs.declared.job.Job.{Job}
use Rattle.jobs.specs.Reading.{Sound, content_of}

-- the ends of a side are a knob's
pub side_good : (s : Side) → good_side (ends_of s) ≡ true
side_good s = good_out (ends_of s) (record { above = s.above; order = s.order; below = s.below })

sides_good : (sides : List Side) (k : ℕ) → every (λ _ x. good_side x) k (map ends_of sides) ≡ true
sides_good [] k = refl
sides_good (s ∷ sides) k = and_from _ _ (side_good s) (sides_good sides (k + 1))

pub fields_keep : (f : Fields) → Keeps (content f)
fields_keep f =
    let k = knobs_long f.start in
    let some = f.start.some in
    let few = entries_few f.start.sides in
    record {
      positive = f.positive;
      limited = f.limited;
      some_sides = omega arith;
      few_sides = omega arith;
      some_program = f.working;
      few_program = entries_few f.program;
      some_targets = f.aiming;
      few_targets = entries_few f.targets;
      sided = sides_good (entries f.start.sides) 0;
      programmed = f.programmed;
      aimed = f.aimed;
    }

pub job_sound : (j : Job) → Sound (content_of j)
job_sound j = record { fields = fields_keep j.fields; bounded = j.bounded }
