-- Items with numbers: the first fault of many, the list of many, and a test of each.
use Rattle.std.proofs.Common.{◌≡◌, ℕ, zero, suc, ◌+◌, ◌<◌, Bool, true, List, [], ◌∷◌, ◌++◌, length, get_or, Some, None, Option, sym, refl, ap, ◌∙◌, subst, ⊎_elim, add-zero, zero-add, add-one, arith}
use Rattle.std.proofs.lemmas.List.FromFn.{map-range_with_len_more, length-map-range_with_len}
use Rattle.std.proofs.lemmas.Bool.{cases_eq, and_parts, and_from}
use Rattle.records.specs.declared.reason.Refusal.{Refusal}
use Rattle.records.specs.Faults.{first_of, listed}
use Rattle.records.specs.Rules.{every}
use Rattle.records.proofs.Checks.{none_left, none_right, both_none}

-- a fault after none is the first of all
pub found : (f : ℕ → Option Refusal) (k n : ℕ) (d : Refusal) → first_of f k ≡ None → f k ≡ Some d → k < n → first_of f n ≡ Some d
found f k zero d z e h = absurd (omega arith)
found f k (suc n) d z e h =
    ⊎_elim
    (λ (q : k ≡ n). rw (← q, z, e))
    (λ (q : k ≡ n → ⊥). rw (found f k n d z e (omega arith)))
    (cases_eq k n)

-- there is no first fault where no item has one, and only there
pub each_none : (f : ℕ → Option Refusal) (n k : ℕ) → first_of f n ≡ None → k < n → f k ≡ None
each_none f zero k e h = absurd (omega arith)
each_none f (suc n) k e h =
    ⊎_elim
    (λ (q : k ≡ n). rw q (none_right (first_of f n) (f n) e))
    (λ (q : k ≡ n → ⊥). each_none f n k (none_left (first_of f n) (f n) e) (omega arith))
    (cases_eq k n)

pub all_none : (f : ℕ → Option Refusal) (n : ℕ) → ((i : ℕ) → i < n → f i ≡ None) → first_of f n ≡ None
all_none f zero h = refl
all_none f (suc n) h = both_none (first_of f n) (f n) (all_none f n (λ i l. h i (omega arith))) (h n (omega arith))

-- one item more
pub listed_more : {A : Type 0} (item : ℕ → A) (n : ℕ) → listed item (suc n) ≡ listed item n ++ (item n ∷ [])
listed_more item n = ap (listed item) (sym (add-one n)) ∙ map-range_with_len_more item 0 n n (zero-add n)

-- a test of each item and of one more
every_more : {A : Type 0} (p : ℕ → A → Bool) (k : ℕ) (xs : List A) (x : A) → every p k xs ≡ true → p (k + length xs) x ≡ true → every p k (xs ++ (x ∷ [])) ≡ true
every_more p k [] x h e = and_from _ _ (rw add-zero at e) refl
every_more p k (y ∷ xs) x h e =
    let b = and_parts (p k y) (every p (k + 1) xs) h in
    let q : k + length (y ∷ xs) ≡ k + 1 + length xs = omega arith in
    and_from _ _ b.0 (every_more p (k + 1) xs x b.1 (rw q at e))

-- items without a fault keep their rule
pub every_listed : {A : Type 0} (fault : ℕ → Option Refusal) (item : ℕ → A) (p : ℕ → A → Bool)
    → ((k : ℕ) → fault k ≡ None → p k (item k) ≡ true) → (n : ℕ) → first_of fault n ≡ None → every p 0 (listed item n) ≡ true
every_listed fault item p each zero e = refl
every_listed {A} fault item p each (suc n) e =
    let q : 0 + length (listed item n) ≡ n = omega (arith, length-map-range_with_len item 0 n) in
    subst (λ (xs : List A). every p 0 xs ≡ true) (sym (listed_more item n))
    (every_more p 0 (listed item n) (item n) (every_listed fault item p each n (none_left _ _ e)) (rw q (each n (none_right (first_of fault n) _ e))))

-- a test of each item holds at each number
pub every_at : {A : Type 0} (p : ℕ → A → Bool) (k : ℕ) (xs : List A) (d : A) → every p k xs ≡ true → (i : ℕ) → i < length xs → p (k + i) (get_or xs i d) ≡ true
every_at p k [] d e i h = absurd (omega arith)
every_at p k (x ∷ xs) d e zero h = let q : k + 0 ≡ k = omega arith in rw q (and_parts (p k x) (every p (k + 1) xs) e).0
every_at p k (x ∷ xs) d e (suc i) h =
    let q : k + suc i ≡ k + 1 + i = omega arith in
    rw q (every_at p (k + 1) xs d (and_parts (p k x) (every p (k + 1) xs) e).1 i (omega arith))
