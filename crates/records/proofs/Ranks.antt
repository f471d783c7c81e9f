-- Rules in the order in which they are looked at: the first fault of several checks tells the broken rule that is looked at first.
use Rattle.std.proofs.Common.{◌≡◌, ℕ, zero, suc, ◌<◌, ◌≤◌, Bool, true, false, ◌||◌, ◌⊎◌, [], ◌∷◌, Some, None, Ok, Err, Decides, Option, Result, sym, refl, ap, inl, inr, ⊎_elim, arith}
use Rattle.std.proofs.lemmas.Bool.{both_ways, cases_eq}
use Rattle.records.specs.declared.reason.Reason.{Reason}
use Rattle.records.specs.declared.reason.Refusal.{Refusal}
use Rattle.records.specs.Faults.{when, or_else, first, first_of, unless, passed, mapped}
use Rattle.records.specs.Broken.{at, stage, Earlier, Told}

-- where there is no fault no rule is broken; a fault tells a broken rule, and none is looked at earlier
abbrev pub Least : (Refusal → Type 0) → Option Refusal → Type 0
Least B o = Told B (passed o)

-- one rule, told for this reason at this place
abbrev pub One : Type 0 → Reason → ℕ → Refusal → Type 0
One X why p e = X × (e ≡ at why p)

-- the rules of either
abbrev pub Or : (Refusal → Type 0) → (Refusal → Type 0) → Refusal → Type 0
Or P Q e = P e ⊎ Q e

-- the rules of the items 0 to n - 1
abbrev pub Any : ℕ → (ℕ → Refusal → Type 0) → Refusal → Type 0
Any n P e = (k : ℕ) × (k < n) × P k e

-- what is looked at no earlier
pub later_stage : (d e : Refusal) → stage d.reason < stage e.reason → Earlier e d → ⊥
later_stage d e h (inl l) = omega arith
later_stage d e h (inr q) = omega (arith, q.0)

pub later_place : (d e : Refusal) → stage d.reason ≡ stage e.reason → d.place ≤ e.place → Earlier e d → ⊥
later_place d e s h (inl l) = omega arith
later_place d e s h (inr q) = omega (arith, q.1)

-- an answer tells of the rules what the fault does that it was made from
pub told_unless : {A : Type 0} (B : Refusal → Type 0) (o : Option Refusal) (x : A) → Least B o → Told B (unless o x)
told_unless B None x l = l
told_unless B (Some d) x l = l

told_mapped : {A C : Type 0} (B : Refusal → Type 0) (f : A → C) (r : Result A Refusal) → Told B (mapped f r) → Told B r
told_mapped B f (Ok x) t = t
told_mapped B f (Err d) t = t

pub told_of : {A C : Type 0} (B : Refusal → Type 0) (f : A → C) (r : Result A Refusal) (o : Option Refusal) (x : C) → mapped f r ≡ unless o x → Least B o → Told B r
told_of B f r o x e l = told_mapped B f r (rw e (told_unless B o x l))

-- one rule is told at its reason's stage
pub one_stage : (X : Type 0) (why : Reason) (p : ℕ) (e : Refusal) → One X why p e → stage e.reason ≡ stage why
one_stage X why p e x = ap (λ (r : Refusal). stage r.reason) x.1

-- one check
pub least_when : (b : Bool) (X : Type 0) (why : Reason) (p : ℕ) → Decides b X → Least (One X why p) (when b why p)
least_when true X why p t =
    ((t.0 refl, refl), λ e x. later_place (at why p) e (sym (one_stage X why p e x)) (omega (arith, ap (λ (r : Refusal). r.place) x.1)))
least_when false X why p t = λ e x. both_ways false refl (t.1 x.0)

-- the last check of a list
pub least_last : (P : Refusal → Type 0) (o : Option Refusal) → Least P o → Least P (or_else o None)
least_last P None l = l
least_last P (Some d) l = l

module _ (P Q : Refusal → Type 0) where
  -- the same rules
  pub least_map : (o : Option Refusal) → ((e : Refusal) → P e → Q e) → ((e : Refusal) → Q e → P e) → Least P o → Least Q o
  least_map None f g l = λ e q. l e (g e q)
  least_map (Some d) f g l = (f d l.0, λ e q. l.1 e (g e q))

  -- two checks, of which the second is right where no rule of the first is broken
  pub least_then : (a b : Option Refusal) → Least P a → (((e : Refusal) → P e → ⊥) → Least Q b)
      → ((d e : Refusal) → P d → Q e → Earlier e d → ⊥) → Least (Or P Q) (or_else a b)
  least_then None None l m h = λ e x. ⊎_elim (l e) (m l e) x
  least_then None (Some d) l m h = (inr (m l).0, λ e x g. ⊎_elim (l e) (λ q. (m l).1 e q g) x)
  least_then (Some d) b l m h = (inl l.0, λ e x g. ⊎_elim (λ p. l.1 e p g) (λ q. h d e l.0 q g) x)

  -- two checks
  pub least_or : (a b : Option Refusal) → Least P a → Least Q b → ((d e : Refusal) → P d → Q e → Earlier e d → ⊥) → Least (Or P Q) (or_else a b)
  least_or a b l m h = least_then a b l (λ _. m) h

-- the rule is told at this stage, at a place from lo to hi
pub record Spot (g lo hi : ℕ) (e : Refusal) : Type 0 where
  pub staged : stage e.reason ≡ g
  pub from : lo ≤ e.place
  pub to : e.place ≤ hi

-- each of the rules is told at this stage, at a place from lo to hi
pub record Within (g lo hi : ℕ) (P : Refusal → Type 0) : Type 0 where
  pub span : lo ≤ hi
  pub spot : (e : Refusal) → P e → Spot g lo hi e

-- such rules, and the first fault of their checks
pub record Ranked (g lo hi : ℕ) (P : Refusal → Type 0) (o : Option Refusal) : Type 0 where
  pub within : Within g lo hi P
  pub least : Least P o

-- one check
pub within_one : (X : Type 0) (why : Reason) (p lo hi : ℕ) → lo ≤ hi → (X → (lo ≤ p) × (p ≤ hi)) → Within (stage why) lo hi (One X why p)
within_one X why p lo hi s h = record { span = s; spot = spot }
  where
    spot : (e : Refusal) → One X why p e → Spot (stage why) lo hi e
    spot e x = rw x.1 (record { staged = refl; from = (h x.0).0; to = (h x.0).1 })

pub ranked_when : (b : Bool) (X : Type 0) (why : Reason) (p lo hi : ℕ) → lo ≤ hi → (X → (lo ≤ p) × (p ≤ hi)) → Decides b X → Ranked (stage why) lo hi (One X why p) (when b why p)
ranked_when b X why p lo hi s h t = record { within = within_one X why p lo hi s h; least = least_when b X why p t }

pub ranked_from : (b : Bool) (X : Type 0) (why : Reason) (p hi : ℕ) → p ≤ hi → Decides b X → Ranked (stage why) p hi (One X why p) (when b why p)
ranked_from b X why p hi h t = ranked_when b X why p p hi h (λ _. (omega arith, h)) t

-- two checks that tell the same
twice : (x y : Bool) (why : Reason) (p : ℕ) → first (when x why p ∷ when y why p ∷ []) ≡ when (x || y) why p
twice true y why p = refl
twice false true why p = refl
twice false false why p = refl

pub least_twice : (x y : Bool) (X : Type 0) (why : Reason) (p : ℕ) → Decides (x || y) X → Least (One X why p) (first (when x why p ∷ when y why p ∷ []))
least_twice x y X why p t = rw (twice x y why p) (least_when (x || y) X why p t)

-- the same rules
pub ranked_map : {g lo hi : ℕ} {P : Refusal → Type 0} {o : Option Refusal} (Q : Refusal → Type 0) → ((e : Refusal) → P e → Q e) → ((e : Refusal) → Q e → P e)
    → Ranked g lo hi P o → Ranked g lo hi Q o
ranked_map {P = P} {o = o} Q f h r =
    record { within = record { span = r.within.span; spot = λ e q. r.within.spot e (h e q) }; least = least_map P Q o f h r.least }

-- the last check of a list
pub ranked_last : {g lo hi : ℕ} {P : Refusal → Type 0} (o : Option Refusal) → Ranked g lo hi P o → Ranked g lo hi P (or_else o None)
ranked_last {P = P} o r = record { within = r.within; least = least_last P o r.least }

-- of two groups of rules the first is told at no higher place than the second
module _ {g a b c d : ℕ} {P Q : Refusal → Type 0} where
  pub within_or : Within g a b P → Within g c d Q → b ≤ c → Within g a d (Or P Q)
  within_or r s h = record { span = omega (arith, r.span, s.span); spot = spot }
    where
      spot : (e : Refusal) → Or P Q e → Spot g a d e
      spot e (inl p) = let t = r.spot e p in record { staged = t.staged; from = t.from; to = omega (arith, t.to, s.span) }
      spot e (inr q) = let t = s.spot e q in record { staged = t.staged; from = omega (arith, t.from, r.span); to = t.to }

  pub within_order : Within g a b P → Within g c d Q → b ≤ c → (x y : Refusal) → P x → Q y → Earlier y x → ⊥
  within_order r s h x y p q =
      let t = r.spot x p in
      let u = s.spot y q in
      later_place x y (omega (arith, t.staged, u.staged)) (omega (arith, t.to, u.from))

  pub ranked_then : {o : Option Refusal} (o' : Option Refusal) → Ranked g a b P o → Within g c d Q → b ≤ c → (((e : Refusal) → P e → ⊥) → Least Q o')
      → Ranked g a d (Or P Q) (or_else o o')
  ranked_then {o} o' r s h m = record { within = within_or r.within s h; least = least_then P Q o o' r.least m (within_order r.within s h) }

  pub ranked_or : {o o' : Option Refusal} → Ranked g a b P o → Ranked g c d Q o' → b ≤ c → Ranked g a d (Or P Q) (or_else o o')
  ranked_or {o' = o'} r s h = ranked_then o' r s.within h (λ _. s.least)

-- items one behind the other: item k has its rules from its place to the next item's
module _ {g : ℕ} (place : ℕ → ℕ) (f : ℕ → Option Refusal) (P : ℕ → Refusal → Type 0) (each : (k : ℕ) → Ranked g (place k) (place (suc k)) (P k) (f k)) where
  more : (n : ℕ) (e : Refusal) → Or (Any n P) (P n) e → Any (suc n) P e
  more n e (inl x) = (x.0, omega (arith, x.1), x.2)
  more n e (inr p) = (n, omega arith, p)

  less : (n : ℕ) (e : Refusal) → Any (suc n) P e → Or (Any n P) (P n) e
  less n e x =
      ⊎_elim
      (λ (q : x.0 ≡ n). inr (rw q at x.2))
      (λ (q : x.0 ≡ n → ⊥). inl (x.0, omega (arith, x.1), x.2))
      (cases_eq x.0 n)

  pub ranked_of : (n : ℕ) → Ranked g (place 0) (place n) (Any n P) (first_of f n)
  ranked_of zero = record { within = record { span = omega arith; spot = λ e x. absurd (omega (arith, x.1)) }; least = λ e x. omega (arith, x.1) }
  ranked_of (suc n) = ranked_map (Any (suc n) P) (more n) (less n) (ranked_or (ranked_of n) (each n) (omega arith))
