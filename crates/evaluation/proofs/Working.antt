-- The rows of a job's registers over a box inside its start box.
use Rattle.std.proofs.Common.{◌≡◌, ℕ, ◌<◌, ◌≤◌, true, List, ◌++◌, length, get_or, None, Ok, Option, sym, ap, ◌∙◌, subst, arith}
use Rattle.std.proofs.lemmas.Grind.{common_steps}
use Rattle.std.proofs.lemmas.List.{get_or_append_left}
use Rattle.boxes.specs.Boxes.{Ends, nested}
use Rattle.boxes.specs.Views.{sides_of}
use Rattle.boxes.specs.declared.region.Region.{Region}
use Rattle.boxes.proofs.Nesting.{Nested}
use Rattle.ranges.specs.declared.row.Row.{Row}
use Rattle.ranges.specs.Kind.{Holds, Kind, Lawful}
use Rattle.records.specs.Rules.{Content}
use Rattle.jobs.specs.declared.job.Job.{Job}
use Rattle.jobs.specs.Reading.{content_of}
use Rattle.jobs.specs.Registers.{Wired, no_row, program_of, registers}
use Rattle.jobs.proofs.Holding.{region_sided, rows_hold}
use Rattle.jobs.proofs.Wiring.{region_wired}
use Rattle.evaluation.specs.declared.unfit.Unfit.{Unfit}
use Rattle.evaluation.specs.Laws.{Evaluated}
use Rattle.evaluation.specs.Scratch.{fitting, unfit}
use Rattle.evaluation.proofs.Growing.{all_registers}
use Rattle.evaluation.proofs.Single.{holds_only}

module _ (k : Kind) (L : Lawful k) (j : Job) (r : Region) (n : Nested (sides_of r) (sides_of j.fields.start)) where
  pub wired_here : Wired (length (sides_of r)) (program_of j.fields)
  wired_here = region_wired j.fields r n.knobs

  -- every register has its row
  pub all_here : length (registers k (program_of j.fields) (sides_of r)) ≡ length (program_of j.fields)
  all_here =
      all_registers k L (program_of j.fields) (sides_of r) (sides_of j.fields.start) (region_sided r) (region_sided j.fields.start) wired_here n j.bounded

  pub evaluated : (rows rest : List Row) → rows ≡ registers k (program_of j.fields) (sides_of r) ++ rest → Evaluated k (content_of j) (sides_of r) rows
  evaluated rows rest e =
      let all = all_here in
      record {
        all = all;
        holds = rows_hold k L (program_of j.fields) (sides_of r) (region_sided r) wired_here (length (program_of j.fields)) rows rest (sym all) e;
        one = λ s only i h x q.
            let l : i < length (registers k (program_of j.fields) (sides_of r)) = omega arith in
            let g : get_or rows i no_row ≡ get_or (registers k (program_of j.fields) (sides_of r)) i no_row = ap (λ y. get_or y i no_row) e ∙ get_or_append_left (registers k (program_of j.fields) (sides_of r)) rest no_row i l in
            holds_only k L (program_of j.fields) (sides_of r) (region_sided r) wired_here s only i l x (subst (λ y. Holds k y x) g q);
      }

-- what is fit has enough rows and a box inside the start box
pub record Fit (c : Content) (box : List Ends) (rows : ℕ) : Type 0 where
  pub room : length c.program ≤ rows
  pub inside : nested box c.sides ≡ true

pub fit_in : (c : Content) (box : List Ends) (rows : ℕ) → unfit c box rows ≡ None → Fit c box rows
fit_in c box rows e = record { room = grind (arith, common_steps); inside = grind (arith, common_steps) }

-- an answer hangs on no refusal
pub answered_none : {A : Type 0} (o : Option Unfit) (x y : A) → Ok x ≡ fitting o y → o ≡ None
answered_none o x y q = grind (arith, common_steps)
