-- Reading a job: from the verdict on its fields to the verdict on the whole.
use Rattle.std.proofs.Common.{◌≡◌, ℕ, ◌<◌, ◌≤◌, List, length, Some, None, Ok, Err, sym, ap, ◌∙◌}
use Rattle.std.proofs.lemmas.Bool.{le-ltb, lt-ltb}
use Rattle.records.specs.declared.reason.Reason.TheVariants.{TooLarge}
use Rattle.records.specs.declared.reason.Refusal.{Refusal}
use Rattle.records.specs.Faults.{unless}
use Rattle.records.specs.Layouts.{counts_in}
use Rattle.records.specs.Rules.{Content}
use Rattle.records.specs.Verdicts.{content_in, fault}
use Rattle.records.specs.Verdicts.{verdict as fields_verdict}
use Rattle.records.proofs.Checks.{broke, value_of, went}
use Rattle.jobs.specs.Reading.{bounded_upto, large_fault, verdict}

-- a job with a register that is too large has that fault, and others have none
large_is : (c : Content) → bounded_upto c < length c.program → large_fault c ≡ Some (record { reason = TooLarge; place = bounded_upto c })
large_is c h = rw (lt-ltb (bounded_upto c) (length c.program) h)

large_none : (c : Content) → length c.program ≤ bounded_upto c → large_fault c ≡ None
large_none c h = rw (le-ltb (bounded_upto c) (length c.program) h)

-- fields that are refused are refused
pub fields_refused : (s : List ℕ) (d : Refusal) → Err d ≡ fields_verdict s → Err d ≡ verdict s
fields_refused s d e = broke (fault s) (large_fault (content_in s (counts_in s))) (content_in s (counts_in s)) d (content_in s (counts_in s)) e

-- fields that are accepted are judged by their registers
module _ (s : List ℕ) (c : Content) (e : Ok c ≡ fields_verdict s) where
  pub is_content : c ≡ content_in s (counts_in s)
  is_content = value_of (fault s) (content_in s (counts_in s)) c e

  judged : verdict s ≡ unless (large_fault c) c
  judged =
      went (fault s) (large_fault (content_in s (counts_in s))) (content_in s (counts_in s)) c (content_in s (counts_in s)) e
      ∙ ap (λ x. unless (large_fault x) x) (sym is_content)

  pub too_large : bounded_upto c < length c.program → Err (record { reason = TooLarge; place = bounded_upto c }) ≡ verdict s
  too_large h = sym (judged ∙ ap (λ o. unless o c) (large_is c h))

  pub all_within : length c.program ≤ bounded_upto c → Ok c ≡ verdict s
  all_within h = sym (judged ∙ ap (λ o. unless o c) (large_none c h))
