-- Rows of the plain kind: which there are, what they hold, and the answer with given ends.
use Rattle.std.specs.Prelude.{◌≡◌, true, ℤ, negsuc, Some, None, Option, ◌==◌, int_le, refl}
use Rattle.std.proofs.lemmas.Bool.{and_parts, and_from, both_ways, cond_both, eqb-true}
use Rattle.whole.specs.Laws.{Amid}
use Rattle.whole.proofs.Products.{is_le, le_in}
use Rattle.boxes.specs.Boxes.{Ends}
use Rattle.ranges.specs.declared.row.Row.{Row}
use Rattle.ranges.specs.declared.plain.Plain.{Plain}
use Rattle.ranges.specs.Bounds.{Ordered, fit}
use Rattle.ranges.specs.Kind.{Valid, Holds, ends}
use Rattle.ranges.specs.Plains.{plain, plain_kind, plain_row, row_of}

pub fit_in : (e : Ends) → fit e ≡ true → Ordered e
fit_in e t =
    let p = and_parts (int_le (negsuc 1073741823) e.lo) _ t in
    let q = and_parts (int_le e.lo e.hi) _ p.1 in
    record { above = le_in _ _ p.0; order = le_in _ _ q.0; below = le_in _ _ q.1 }

pub fit_out : (e : Ends) → Ordered e → fit e ≡ true
fit_out e o = and_from _ _ (is_le _ _ o.above) (and_from _ _ (is_le _ _ o.order) (is_le _ _ o.below))

pub valid_in : (r : Row) → Valid plain_kind r → Ordered (ends r)
valid_in r v = fit_in (ends r) (and_parts (fit (ends r)) (r.step == 0) v).0

pub valid_step : (r : Row) → Valid plain_kind r → r.step ≡ 0
valid_step r v = eqb-true _ _ (and_parts (fit (ends r)) (r.step == 0) v).1

pub row_valid : (e : Ends) → Ordered e → Valid plain_kind (row_of e)
row_valid e o = and_from (fit e) true (fit_out e o) refl

pub plain_valid : (p : Plain) → Valid plain_kind (plain_row p)
plain_valid p = row_valid (record { lo = p.low; hi = p.high }) (record { above = p.above; order = p.order; below = p.below })

pub holds_in : (r : Row) (x : ℤ) → Holds plain_kind r x → Amid r.low x r.high
holds_in r x h = let p = and_parts (int_le r.low x) (int_le x r.high) h in record { low = le_in _ _ p.0; high = le_in _ _ p.1 }

pub holds_out : (r : Row) (x : ℤ) → Amid r.low x r.high → Holds plain_kind r x
holds_out r x h = and_from _ _ (is_le _ _ h.low) (is_le _ _ h.high)

-- ends in order and within the bound give the row, and others nothing
pub plain_by : (e : Ends) (P : Option Row → Type 0) → (Ordered e → P (Some (row_of e))) → ((Ordered e → ⊥) → P None) → P (plain e)
unfolding plain
plain_by e P is not = cond_both (fit e) (Some (row_of e)) None P (λ t. is (fit_in e t)) (λ f. not (λ o. both_ways (fit e) f (fit_out e o)))

pub plain_yes : (e : Ends) → Ordered e → plain e ≡ Some (row_of e)
plain_yes e o = plain_by e (λ p. p ≡ Some (row_of e)) (λ _. refl) (λ n. absurd (n o))

pub plain_no : (e : Ends) → (Ordered e → ⊥) → plain e ≡ None
plain_no e n = plain_by e (λ p. p ≡ None) (λ o. absurd (n o)) (λ _. refl)

-- a range with those ends is the answer
pub plain_is : (l h l' h' : ℤ) → l ≡ l' → h ≡ h' → Ordered (record { lo = l'; hi = h' }) → Some (row_of (record { lo = l; hi = h })) ≡ plain (record { lo = l'; hi = h' })
plain_is l h l' h' e f o = let y = plain_yes (record { lo = l'; hi = h' }) o in cc

-- the same ends give the same answer
pub plain_at : (l h l' h' : ℤ) → l ≡ l' → h ≡ h' → plain (record { lo = l; hi = h }) ≡ plain (record { lo = l'; hi = h' })
plain_at l h l' h' e f = cc
