-- The refusal that is told is the broken rule that is looked at first.
use Rattle.std.proofs.Common.{ℕ, ◌<◌, ◌≤◌, List, length, get_or, Ok, Err, refl, subst, arith}
use Rattle.ranges.specs.Kind.{Answer}
use Rattle.ranges.specs.Plains.{plain_kind}
use Rattle.ranges.specs.Lawfulness.{plain_lawful}
use Rattle.records.specs.declared.reason.Reason.TheVariants.{TooLarge}
use Rattle.records.specs.declared.reason.Refusal.{Refusal}
use Rattle.records.specs.Broken.{Broken, Earlier, Told, at}
use Rattle.records.specs.Layouts.{counts_in}
use Rattle.records.specs.Rules.{Content, Keeps}
use Rattle.records.specs.Verdicts.{content_in}
use Rattle.records.proofs.Firsts.{broken_stage}
use Rattle.records.proofs.Ranks.{later_place, later_stage}
use Rattle.jobs.specs.Reading.{JobBroken, Leaves, bounded_upto}
use Rattle.jobs.specs.Reading.JobBroken.{in_fields, in_registers}
use Rattle.jobs.specs.Registers.{expected, no_instruction, gives, registers}
use Rattle.jobs.proofs.Fills.{fill_stops}
use Rattle.jobs.proofs.Holding.{Results, gives_answer, reg_valid}
use Rattle.jobs.proofs.Bounding.{sided}
use Rattle.jobs.proofs.Wiring.{wired}

-- a job whose fields keep their rules, and that has a register too many for the bound, leaves the bound there
pub leaving : (c : Content) → Keeps c → bounded_upto c < length c.program → Leaves c (bounded_upto c)
leaving c g h =
    let box = c.sides in
    let rows = registers plain_kind c.program box in
    let i = get_or c.program (bounded_upto c) no_instruction in
    let w = wired (length box) c.program g.programmed in
    let a = gives_answer plain_kind plain_lawful box (sided c g) i (bounded_upto c) rows (w (bounded_upto c) h) (λ k l. reg_valid plain_kind plain_lawful c.program box (sided c g) w k l) in
    record {
      there = h;
      before = refl;
      leaves = subst (Answer plain_kind (expected box i rows) (Results plain_kind box i rows)) (fill_stops (gives plain_kind box) c.program no_instruction h) a;
    }

module _ (s : List ℕ) where
  -- a refusal of the fields is told before any of the registers
  fields_before : (d : Refusal) → Told {A = Content} (Broken s) (Err d) → (e : Refusal) → JobBroken s e → Earlier e d → ⊥
  fields_before d t e (in_fields e' b) o = t.1 e b o
  fields_before d t e (in_registers k l) o =
      let f = broken_stage s d t.0 in
      later_stage d (at TooLarge k) (omega arith) o

  pub told_fields : (d : Refusal) → Told {A = Content} (Broken s) (Err d) → Told {A = Content} (JobBroken s) (Err d)
  told_fields d t = (in_fields d t.0, fields_before d t)

  module _ (none : (e : Refusal) → Broken s e → ⊥) where
    abbrev said : Content
    said = content_in s (counts_in s)

    one_large : (k : ℕ) → Leaves said k → (e : Refusal) → JobBroken s e → Earlier e (at TooLarge k) → ⊥
    one_large k l e (in_fields e' b) o = none e b
    one_large k l e (in_registers k' l') o =
        let p = l.before in
        let q = l'.before in
        later_place (at TooLarge k) (at TooLarge k') refl (omega arith) o

    pub told_large : (k : ℕ) → Leaves said k → Told {A = Content} (JobBroken s) (Err (at TooLarge k))
    told_large k l = (in_registers k l, one_large k l)

    none_broken : length said.program ≤ bounded_upto said → (e : Refusal) → JobBroken s e → ⊥
    none_broken h e (in_fields e' b) = none e b
    none_broken h e (in_registers k l) = let p = l.before in let q = l.there in omega arith

    pub told_none : (c : Content) → length said.program ≤ bounded_upto said → Told {A = Content} (JobBroken s) (Ok c)
    told_none c h = none_broken h
