-- Counts of what passes a test: all, some, or one of two tests each.
use Rattle.std.proofs.Common.{◌≡◌, ℕ, zero, suc, ◌+◌, ◌<◌, Bool, true, false, cond, ◌⊎◌, List, [], ◌∷◌, length, get_or, count_by, refl, ap, ◌∙◌, inl, inr, ⊎_elim, arith}
use Rattle.std.proofs.lemmas.Grind.{common_steps}
use Rattle.std.proofs.lemmas.List.Sums.{count_by-le-length, sum_by-cons}

module _ {A : Type 0} (p : A → Bool) where
  counted : (x : A) (xs : List A) (b : Bool) → p x ≡ b → count_by p (x ∷ xs) ≡ cond b 1 0 + count_by p xs
  counted x xs b e = sum_by-cons (λ y. cond (p y) 1 0) x xs ∙ ap (λ t. cond t 1 0 + count_by p xs) e

  -- where as many pass as there are, each does
  pub all_pass : (xs : List A) (d : A) → count_by p xs ≡ length xs → (n : ℕ) → n < length xs → p (get_or xs n d) ≡ true
  all_pass [] d e n h = absurd (omega arith)
  all_pass (x ∷ xs) d e zero h = let u = count_by-le-length p xs in grind (arith, common_steps, sum_by-cons)
  all_pass (x ∷ xs) d e (suc n) h = let u = count_by-le-length p xs in all_pass xs d (grind (arith, common_steps, sum_by-cons)) n (omega arith)

  abbrev One : List A → A → Type 0
  One xs d = (n : ℕ) × (n < length xs) × (p (get_or xs n d) ≡ true)

  one_by : (x : A) (xs : List A) (d : A) (b : Bool) → p x ≡ b → 0 < count_by p (x ∷ xs) → (0 < count_by p xs → One xs d) → One (x ∷ xs) d
  one_by x xs d true q h rest = (0, omega arith, q)
  one_by x xs d false q h rest = let c = counted x xs false q in let r = rest (omega arith) in (suc r.0, (let k = r.1 in omega arith), r.2)

  -- where some pass, there is one that does
  pub one_passes : (xs : List A) (d : A) → 0 < count_by p xs → One xs d
  one_passes [] d h = absurd (omega arith)
  one_passes (x ∷ xs) d h = one_by x xs d (p x) refl h (one_passes xs d)

-- where each passes one of two tests, all pass the first or some passes the second
pub all_or_some : {A : Type 0} (p q : A → Bool) (xs : List A) (d : A) → ((n : ℕ) → n < length xs → (p (get_or xs n d) ≡ true) ⊎ (q (get_or xs n d) ≡ true)) →
    (count_by p xs ≡ length xs) ⊎ (0 < count_by q xs)
all_or_some p q [] d f = inl refl
all_or_some p q (x ∷ xs) d f = ⊎_elim
    (λ (e : p x ≡ true). let a = counted p x xs true e in let b = counted q x xs (q x) refl in ⊎_elim
    (λ (r : count_by p xs ≡ length xs). inl (omega arith))
    (λ (r : 0 < count_by q xs). inr (omega arith))
    (all_or_some p q xs d (λ n h. f (suc n) (omega arith))))
    (λ (e : q x ≡ true). let b = counted q x xs true e in inr (omega arith))
    (f 0 (omega arith))

-- tests that agree on each count the same
pub count_same : {A : Type 0} (p q : A → Bool) (xs : List A) (d : A) → ((n : ℕ) → n < length xs → p (get_or xs n d) ≡ q (get_or xs n d)) → count_by p xs ≡ count_by q xs
count_same p q [] d f = refl
count_same p q (x ∷ xs) d f = rw (sum_by-cons, sum_by-cons, f 0 (omega arith), count_same p q xs d (λ n h. f (suc n) (omega arith))) refl
