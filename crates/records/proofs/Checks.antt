-- Checks in order: what a value or a refusal says of them, and what each says of its test.
use Rattle.std.proofs.Common.{◌≡◌, ℕ, Bool, true, false, not, ◌&&◌, [], ◌∷◌, Some, None, Ok, Err, Option, refl}
use Rattle.records.specs.declared.reason.Reason.{Reason}
use Rattle.records.specs.declared.reason.Refusal.{Refusal}
use Rattle.records.specs.Faults.{when, or_else, first, unless}

-- a value says that there is no fault, and which value it is
pub value_of : {A : Type 0} (o : Option Refusal) (x v : A) → Ok v ≡ unless o x → v ≡ x
value_of None x v e = cc
value_of (Some d) x v e = cc

pub none_of : {A : Type 0} (o : Option Refusal) (x v : A) → Ok v ≡ unless o x → o ≡ None
none_of None x v e = refl
none_of (Some d) x v e = cc

-- a refusal says which fault there is
pub some_of : {A : Type 0} (o : Option Refusal) (x : A) (d : Refusal) → Err d ≡ unless o x → o ≡ Some d
some_of None x d e = cc
some_of (Some d') x d e = cc

-- the checks after one that found nothing decide
pub went : {A B : Type 0} (o rest : Option Refusal) (x v : A) (y : B) → Ok v ≡ unless o x → unless (or_else o rest) y ≡ unless rest y
went None rest x v y e = refl
went (Some d) rest x v y e = cc

-- a check that found a fault decides
pub broke : {A B : Type 0} (o rest : Option Refusal) (x : A) (d : Refusal) (y : B) → Err d ≡ unless o x → Err d ≡ unless (or_else o rest) y
broke None rest x d y e = cc
broke (Some d') rest x d y e = cc

-- two checks find nothing where neither does
pub none_left : (a b : Option Refusal) → or_else a b ≡ None → a ≡ None
none_left None b e = refl
none_left (Some d) b e = e

pub none_right : (a b : Option Refusal) → or_else a b ≡ None → b ≡ None
none_right None b e = e
none_right (Some d) b e = cc

pub both_none : (a b : Option Refusal) → a ≡ None → b ≡ None → or_else a b ≡ None
both_none None b e f = f
both_none (Some d) b e f = e

-- a check finds nothing where its test fails, and only there
pub rest_unmet : (x : Bool) (why : Reason) (p : ℕ) (o : Option Refusal) → or_else (when x why p) o ≡ None → (x ≡ false) × (o ≡ None)
rest_unmet true why p o e = cc
rest_unmet false why p o e = (refl, e)

pub one_clean : (x : Bool) (why : Reason) (p : ℕ) (o : Option Refusal) → x ≡ false → o ≡ None → or_else (when x why p) o ≡ None
one_clean true why p o e f = cc
one_clean false why p o e f = f

-- two checks of what should hold find nothing where both hold, and only there
pub two_unmet : (x y : Bool) (why : Reason) (p q : ℕ) → first (when (not x) why p ∷ when (not y) why q ∷ []) ≡ None → (x && y) ≡ true
two_unmet true true why p q e = refl
two_unmet true false why p q e = cc
two_unmet false y why p q e = cc

pub two_clean : (x y : Bool) (why : Reason) (p q : ℕ) → x ≡ true → y ≡ true → first (when (not x) why p ∷ when (not y) why q ∷ []) ≡ None
two_clean true true why p q e f = refl
two_clean true false why p q e f = cc
two_clean false y why p q e f = cc
