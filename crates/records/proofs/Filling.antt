-- A table that is made entry by entry holds what is read, up to the first fault.
use Rattle.std.proofs.Common.{◌≡◌, ℕ, ◌<◌, List, map, length, get_or, Ok, Err, Option, Result, sym, ◌∙◌, refl, arith}
use Rattle.std.proofs.lemmas.List.{get_or-map, length-map, map-id}
use Rattle.std.specs.Result.{MatchResult}
use Rattle.tables.specs.Tables.{Failed, Made, entries}
use Rattle.tables.specs.declared.table.Table.{Table}
use Rattle.records.specs.declared.reason.Refusal.{Refusal}
use Rattle.records.specs.Faults.{unless, mapped, first_of, listed}
use Rattle.records.proofs.Checks.{value_of, none_of, some_of}
use Rattle.records.proofs.Runs.{all_none, found}
use Rattle.records.proofs.Placed.{listed_is}

mapped_plain : {T : Type 0} (r : Result T Refusal) → mapped (λ (x : T). x) r ≡ r
mapped_plain (Ok x) = refl
mapped_plain (Err e) = refl

-- entry k is shown as item k, unless that has a fault; d is any entry
module _ {T V : Type 0} (d : T) (shown : T → V) (fault : ℕ → Option Refusal) (item : ℕ → V) (makes : ℕ → Result T Refusal → Type 0) (n : ℕ)
    (reads : (k : ℕ) (r : Result T Refusal) → k < n → makes k r → mapped shown r ≡ unless (fault k) (item k)) where
  made : (xs : List T) → Made makes n xs → Ok (map shown xs) ≡ unless (first_of fault n) (listed item n)
  made xs m =
      let each = λ (k : ℕ) (h : k < n). reads k (Ok (get_or xs k d)) h (m.each k d h) in
      let clean = all_none fault n (λ k h. none_of _ _ _ (each k h)) in
      let long : length (map shown xs) ≡ n = length-map xs shown ∙ m.long in
      let same : listed item (length (map shown xs)) ≡ map shown xs = listed_is item (map shown xs) (shown d) (λ k h.
      sym (get_or-map shown xs k d (shown d) (omega (arith, m.long)) ∙ value_of _ _ _ (each k (omega arith)))) in
      let all = rw long at same in
      rw (clean, all)

  failed : (e : Refusal) → Failed makes n e → Err e ≡ unless (first_of fault n) (listed item n)
  failed e f =
      let clean = all_none fault f.at (λ k h. let b = f.before k h in none_of _ _ _ (reads k (Ok b.0) (omega arith) b.1)) in
      rw (found fault f.at n e clean (some_of _ _ e (reads f.at (Err e) f.below f.fails)) f.below)

  pub filled : {N : ℕ} (r : Result (Table T N) Refusal) → MatchResult r (λ t. Made makes n (entries t)) (Failed makes n) → mapped (λ t. map shown (entries t)) r ≡ unless (first_of fault n) (listed item n)
  filled (Ok t) m = made (entries t) m
  filled (Err e) f = failed e f

-- the same where an entry is shown as it is
pub filled_plain : {T : Type 0} {N : ℕ} (d : T) (fault : ℕ → Option Refusal) (item : ℕ → T) (makes : ℕ → Result T Refusal → Type 0) (n : ℕ)
    → ((k : ℕ) (r : Result T Refusal) → k < n → makes k r → r ≡ unless (fault k) (item k))
    → (r : Result (Table T N) Refusal) → MatchResult r (λ t. Made makes n (entries t)) (Failed makes n) → mapped entries r ≡ unless (first_of fault n) (listed item n)
filled_plain {T} d fault item makes n reads (Ok t) m = rw map-id at (made d (λ (x : T). x) fault item makes n (λ k r h p. mapped_plain r ∙ reads k r h p) (entries t) m)
filled_plain {T} d fault item makes n reads (Err e) f = failed d (λ (x : T). x) fault item makes n (λ k r h p. mapped_plain r ∙ reads k r h p) e f
