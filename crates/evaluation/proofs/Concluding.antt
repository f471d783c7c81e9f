-- What is counted over the rows in scratch memory is what the targets of the job say of the box.
use Rattle.std.proofs.Common.{◌≡◌, ℕ, ◌<◌, Bool, List, ◌++◌, length, get_or, ℤ, count_by, ap, ◌∙◌, arith}
use Rattle.std.proofs.lemmas.List.{get_or_append_left}
use Rattle.boxes.specs.Views.{sides_of}
use Rattle.boxes.specs.declared.region.Region.{Region}
use Rattle.boxes.proofs.Nesting.{Nested}
use Rattle.ranges.specs.declared.row.Row.{Row}
use Rattle.ranges.specs.Kind.{Kind, Lawful}
use Rattle.records.specs.Rules.{no_target}
use Rattle.jobs.specs.declared.job.Job.{Job}
use Rattle.jobs.specs.Reading.{content_of}
use Rattle.jobs.specs.Registers.{no_row, program_of, registers}
use Rattle.jobs.proofs.Holding.{reg_valid, region_sided}
use Rattle.evaluation.specs.Judging.{Truth, judged, said_by}
use Rattle.evaluation.proofs.Aiming.{aimed}
use Rattle.evaluation.proofs.Tallies.{count_same}
use Rattle.evaluation.proofs.Truths.{judged_true}
use Rattle.evaluation.proofs.Working.{all_here, wired_here}

module _ (k : Kind) (L : Lawful k) (j : Job) (r : Region) (n : Nested (sides_of r) (sides_of j.fields.start)) where
  aim : (i : ℕ) → i < length (content_of j).targets → (get_or (content_of j).targets i no_target).register < length (program_of j.fields)
  aim i h = (aimed j.fields i h).there

  -- what the targets say is true of the settings of the box
  pub true_here : Truth (content_of j) (sides_of r) (judged k (content_of j) (sides_of r))
  true_here = judged_true k L (content_of j) (sides_of r) (region_sided r) (wired_here k L j r n) (all_here k L j r n) aim

  abbrev Q : List Row
  Q = registers k (program_of j.fields) (sides_of r)

  module _ (rows rest : List Row) (e : rows ≡ Q ++ rest) where
    -- the row of a target's register is the register's
    given_back : (i : ℕ) → i < length (program_of j.fields) → k.fixed (get_or rows i no_row) ≡ get_or Q i no_row
    given_back i h =
        let all = all_here k L j r n in
        let l : i < length Q = omega arith in
        ap (λ x. k.fixed (get_or x i no_row)) e ∙ ap k.fixed (get_or_append_left Q rest no_row i l) ∙ L.back (get_or Q i no_row) (reg_valid k L (program_of j.fields) (sides_of r) (region_sided r) (wired_here k L j r n) i l)

    same_count : (test : Row → ℤ → ℤ → Bool) →
        count_by (λ t. test (k.fixed (get_or rows t.register no_row)) t.low t.high) (content_of j).targets
        ≡ count_by (λ t. test (get_or Q t.register no_row) t.low t.high) (content_of j).targets
    same_count test = count_same _ _ (content_of j).targets no_target (λ i h.
        let t = get_or (content_of j).targets i no_target in
        ap (λ x. test x t.low t.high) (given_back t.register (aim i h)))

    pub said_here : said_by k (content_of j).targets (λ i. k.fixed (get_or rows i no_row)) ≡ judged k (content_of j) (sides_of r)
    said_here = let a = same_count k.within in let b = same_count k.apart in cc
