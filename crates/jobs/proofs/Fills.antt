-- A list that is filled step by step.
use Rattle.std.proofs.Common.{◌≡◌, ℕ, zero, suc, ◌+◌, ◌<◌, ◌≤◌, List, [], ◌∷◌, ◌++◌, length, get_or, take, Some, None, Option, sym, refl, ap, ◌∙◌, subst, add-zero, zero-add, arith}
use Rattle.std.proofs.lemmas.Grind.{common_steps}
use Rattle.std.proofs.lemmas.List.{take_all, take_at, take-take, length_push}
use Rattle.records.specs.declared.instruction.Instruction.{Instruction}
use Rattle.jobs.specs.Registers.{onward, fill}

module _ {A : Type 0} (f : Instruction → List A → Option A) where
  -- what fill makes of the instructions is, after xs
  pub record Fills (is : List Instruction) (xs r : List A) : Type 0 where
    pub begins : take (length xs) r ≡ xs
    pub from : length xs ≤ length r
    pub upto : length r ≤ length xs + length is
    pub at : (d : Instruction) (e : A) (n : ℕ) → length xs + n < length r → Some (get_or r (length xs + n) e) ≡ f (get_or is n d) (take (length xs + n) r)
    pub stops : (d : Instruction) (n : ℕ) → n < length is → length r ≡ length xs + n → f (get_or is n d) r ≡ None

  at_first : (i : Instruction) (is : List Instruction) (xs : List A) (x : A) (r : List A) → f i xs ≡ Some x → Fills is (xs ++ (x ∷ [])) r → (e : A) → Some (get_or r (length xs) e) ≡ f i (take (length xs) r)
  at_first i is xs x r q h e = let m = h.begins in let n = h.from in grind (arith, common_steps)

  fills_none : (i : Instruction) (is : List Instruction) (xs : List A) → f i xs ≡ None → Fills (i ∷ is) xs xs
  fills_none i is xs q = record {
    begins = take_all (length xs) xs (omega arith);
    from = omega arith;
    upto = omega arith;
    at = λ d e n h. absurd (omega arith);
    stops = stop;
  }
    where
      stop : (d : Instruction) (n : ℕ) → n < length (i ∷ is) → length xs ≡ length xs + n → f (get_or (i ∷ is) n d) xs ≡ None
      stop d zero h e = q
      stop d (suc n) h e = absurd (omega arith)

  fills_some : (i : Instruction) (is : List Instruction) (xs : List A) (x : A) (r : List A) → f i xs ≡ Some x → Fills is (xs ++ (x ∷ [])) r → Fills (i ∷ is) xs r
  fills_some i is xs x r q h =
      let n = length_push xs x in
      let p = h.from in
      let u = h.upto in
      record {
        begins = sym (take-take (length xs) (length (xs ++ (x ∷ []))) r (omega arith)) ∙ ap (take (length xs)) h.begins ∙ take_at xs (x ∷ []) (length xs) refl;
        from = omega arith;
        upto = omega arith;
        at = att;
        stops = stop;
      }
    where
      att : (d : Instruction) (e : A) (n : ℕ) → length xs + n < length r → Some (get_or r (length xs + n) e) ≡ f (get_or (i ∷ is) n d) (take (length xs + n) r)
      att d e zero k = rw add-zero (at_first i is xs x r q h e)
      att d e (suc n) k =
          let l = length_push xs x in
          let m : length (xs ++ (x ∷ [])) + n ≡ length xs + suc n = omega arith in
          subst (λ z. Some (get_or r z e) ≡ f (get_or is n d) (take z r)) m (h.at d e n (omega arith))

      stop : (d : Instruction) (n : ℕ) → n < length (i ∷ is) → length r ≡ length xs + n → f (get_or (i ∷ is) n d) r ≡ None
      stop d zero k e = let l = length_push xs x in let p = h.from in absurd (omega arith)
      stop d (suc n) k e = let l = length_push xs x in h.stops d n (omega arith) (omega arith)

  filled_by : (i : Instruction) (is : List Instruction) (xs : List A) → ((ys : List A) → Fills is ys (fill f is ys)) → (o : Option A) → f i xs ≡ o → Fills (i ∷ is) xs (onward xs (fill f is) o)
  filled_by i is xs rest None q = fills_none i is xs q
  filled_by i is xs rest (Some x) q = fills_some i is xs x (fill f is (xs ++ (x ∷ []))) q (rest (xs ++ (x ∷ [])))

  pub filled : (is : List Instruction) (xs : List A) → Fills is xs (fill f is xs)
  unfolding fill
  filled [] xs = record { begins = take_all (length xs) xs (omega arith); from = omega arith; upto = omega arith; at = λ d e n h. absurd (omega arith); stops = λ d n h. absurd (omega arith) }
  filled (i ∷ is) xs = filled_by i is xs (filled is) (f i xs) refl

  -- no more registers than instructions
  pub fill_upto : (is : List Instruction) → length (fill f is []) ≤ length is
  fill_upto is = let h = (filled is []).upto in omega arith

  -- each register is the answer of its instruction from those before
  pub fill_at : (is : List Instruction) (d : Instruction) (e : A) (j : ℕ) → j < length (fill f is []) → Some (get_or (fill f is []) j e) ≡ f (get_or is j d) (take j (fill f is []))
  fill_at is d e j h = subst (λ z. Some (get_or (fill f is []) z e) ≡ f (get_or is j d) (take z (fill f is []))) (zero-add j) ((filled is []).at d e j (omega arith))

  -- where registers end early, the next instruction has no answer
  pub fill_stops : (is : List Instruction) (d : Instruction) → length (fill f is []) < length is → f (get_or is (length (fill f is [])) d) (fill f is []) ≡ None
  fill_stops is d h = (filled is []).stops d (length (fill f is [])) h (omega arith)
