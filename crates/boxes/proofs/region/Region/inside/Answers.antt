use Rattle.std.proofs.Common.{nat_eq, ◌≡◌, Bool, true, false, sym, ◌∙◌, subst, arith, rules, Decides}
use Rattle.std.proofs.lemmas.Iterator.{YieldsList-from_slice, YieldsList-from_zip, cases_from_all}
use Rattle.std.proofs.lemmas.Grind.{elements}
use borrow.Author.Tests.{tests}
use Rattle.tables.specs.Tables.{entries}
use Rattle.boxes.specs.Boxes.{Part, nested}
use Rattle.boxes.specs.Views.{sides_of}
use Rattle.boxes.specs.declared.region.Region.{Region}
use Rattle.boxes.proofs.Listed.{knobs_long, region_in_order}
use Rattle.boxes.proofs.Nesting.{PairCovers, nested_decides, nested_not, pairs_nested}
use Rattle.boxes.proofs.region.Region.inside.Goals as goal

-- the answer is the test's, and so decides
decided : (a b : Region) (r : Bool) → r ≡ nested (sides_of a) (sides_of b) → Decides r (Part (sides_of a) (sides_of b))
decided a b r e = subst (λ t. Decides t (Part (sides_of a) (sides_of b))) (sym e) (nested_decides (sides_of a) (sides_of b) (region_in_order a))

pub returns-then-knobs : goal.returns-then-knobs
returns-then-knobs c =
    let a = c.args.self.now in
    let b = c.args.other.now in
    let told = pairs_nested (entries a.sides) (entries b.sides) c.all.result (omega (arith, knobs_long a, knobs_long b)) (
    cases_from_all c.all.new.self _ _ (PairCovers true) (PairCovers false) c.all.ensures.ran
    (YieldsList-from_zip (YieldsList-from_slice (entries a.sides) (grind (arith, elements))) (YieldsList-from_slice (entries b.sides) (grind (arith, elements))))
    (λ x q k. search (rules, tests)) (λ x q k. search (rules, tests))
    ) in
    record { value = told; decides = decided a b c.all.result told }

pub returns-else-knobs : goal.returns-else-knobs
returns-else-knobs c =
    let a = c.args.self.now in
    let b = c.args.other.now in
    let e : nat_eq c.knobs.result c.knobs-2.result ≡ false = search rules in
    let told = e ∙ sym (nested_not (sides_of a) (sides_of b) (λ n. c.if-knobs.false (omega arith))) in
    record { value = told; decides = decided a b _ told }
