-- The verdict on the fields, then that on the registers.
use Rattle.std.proofs.Common.{◌≡◌, ◌≤◌, length, Err, sym, ap, ◌∙◌, subst, arith}
use Rattle.std.proofs.lemmas.Result.{err_from_is_err_and}
use Rattle.records.specs.declared.reason.Reason.TheVariants.{TooLarge}
use Rattle.records.specs.declared.reason.Refusal.{Refusal}
use Rattle.records.specs.Broken.{Told, at}
use Rattle.records.specs.Rules.{Content}
use Rattle.records.specs.Verdicts.{content}
use Rattle.jobs.specs.Reading.{JobBroken, Leaves, bounded_upto}
use Rattle.jobs.specs.Registers.{gives, program_of}
use Rattle.boxes.specs.Views.{sides_of}
use Rattle.ranges.specs.Plains.{plain_kind}
use Rattle.jobs.proofs.Accepting.{all_within, fields_refused, is_content, too_large}
use Rattle.jobs.proofs.Bounding.{registers_bounded}
use Rattle.jobs.proofs.Fills.{fill_upto}
use Rattle.jobs.proofs.Telling.{leaving, told_fields, told_large, told_none}
use Rattle.jobs.proofs.Turns.{told_all, told_outside}
use Rattle.jobs.proofs.job.Job.read.Goals as goal

pub returns-in_err-fields-clause-told : goal.returns-in_err-fields-clause-told
returns-in_err-fields-clause-told c =
    let p = err_from_is_err_and c.from_residual.result c.from_residual.ensures.1 in
    rw (p.1, p.2) (fields_refused c.args.bytes.now _ c.in_err-fields.ensures.told)

pub returns-in_err-fields-clause-first : goal.returns-in_err-fields-clause-first
returns-in_err-fields-clause-first c =
    let p = err_from_is_err_and c.from_residual.result c.from_residual.ensures.1 in
    rw (p.1, p.2) (told_fields c.args.bytes.now _ c.in_err-fields.ensures.first)

pub returns-in-Err-clause-told : goal.returns-in-Err-clause-told
returns-in-Err-clause-told c =
    let f = c.in_ok-fields.fields in
    let t = told_outside (bounded_upto (content f)) (length (program_of f)) c.in-Err.e c.in-Err.ensures.told in
    ap Err (c.new.ensures ∙ ap (at TooLarge) t.1) ∙ too_large c.args.bytes.now (content f) c.in_ok-fields.ensures.told t.0

pub returns-in-Err-clause-first : goal.returns-in-Err-clause-first
returns-in-Err-clause-first c =
    let f = c.in_ok-fields.fields in
    let s = c.args.bytes.now in
    let was = c.in_ok-fields.ensures in
    let t = told_outside (bounded_upto (content f)) (length (program_of f)) c.in-Err.e c.in-Err.ensures.told in
    let g = subst (λ (x : Content). Leaves x (bounded_upto (content f))) (is_content s (content f) was.told) (leaving (content f) was.exact.0.kept t.0) in
    subst (λ (d : Refusal). Told {A = Content} (JobBroken s) (Err d)) (sym (c.new.ensures ∙ ap (at TooLarge) t.1)) (told_large s was.first (bounded_upto (content f)) g)

pub returns-in-Ok-clause-told : goal.returns-in-Ok-clause-told
returns-in-Ok-clause-told c =
    let f = c.in_ok-fields.fields in
    all_within c.args.bytes.now (content f) c.in_ok-fields.ensures.told (told_all (bounded_upto (content f)) (length (program_of f)) c.in-Ok.ensures.told)

pub returns-in-Ok-clause-first : goal.returns-in-Ok-clause-first
returns-in-Ok-clause-first c =
    let f = c.in_ok-fields.fields in
    let s = c.args.bytes.now in
    let was = c.in_ok-fields.ensures in
    let h = told_all (bounded_upto (content f)) (length (program_of f)) c.in-Ok.ensures.told in
    told_none s was.first (content f) (subst (λ (x : Content). length x.program ≤ bounded_upto x) (is_content s (content f) was.told) h)

pub returns-in-Ok-clause-bounded : goal.returns-in-Ok-clause-bounded
returns-in-Ok-clause-bounded c =
    let f = c.in_ok-fields.fields in
    let b : bounded_upto (content f) ≡ length (program_of f) = omega (arith, told_all (bounded_upto (content f)) (length (program_of f)) c.in-Ok.ensures.told, fill_upto (gives plain_kind (sides_of f.start)) (program_of f)) in
    registers_bounded (content f) (record { fields = c.in_ok-fields.ensures.exact.0.kept; bounded = b })
