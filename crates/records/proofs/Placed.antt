-- Where each entry of a table stands in its record, and what follows the table.
use Rattle.std.proofs.Common.{◌≡◌, ℕ, zero, suc, ◌+◌, ◌*◌, ◌<◌, List, [], ◌∷◌, ◌++◌, length, get_or, drop, sym, refl, ap, ◌∙◌, append_assoc, mul-suc, arith, length-append}
use Rattle.std.proofs.lemmas.List.FromFn.{fill_by_all}
use Rattle.std.proofs.lemmas.List.{drop-drop, drop_at}
use Rattle.std.specs.List.{flat_map}
use Rattle.records.specs.declared.instruction.Instruction.{Instruction}
use Rattle.records.specs.declared.instruction.Instruction.TheVariants.{Const, Knob, Add, Sub, Mul, Sqr, Min, Shr}
use Rattle.records.specs.Places.{instruction_size}
use Rattle.records.specs.Faults.{listed}
use Rattle.records.specs.Encoding.{encode_instruction}

-- the items at each number make the list
pub listed_is : {A : Type 0} (item : ℕ → A) (xs : List A) (d : A) → ((i : ℕ) → i < length xs → item i ≡ get_or xs i d) → listed item (length xs) ≡ xs
listed_is item xs d h = sym (fill_by_all item xs (length xs) d refl (λ i l. sym (h i l)))

-- where each entry of a table stands, and what follows the table
module _ {A : Type 0} (f : A → List ℕ) (w : ℕ) (wide : (x : A) → length (f x) ≡ w) where
  pub length_joined : (xs : List A) → length (flat_map f xs) ≡ w * length xs
  length_joined [] = omega arith
  length_joined (x ∷ xs) = omega (arith, length-append (f x) (flat_map f xs), wide x, length_joined xs, mul-suc w (length xs))

  module _ (s : List ℕ) (r : List ℕ) where
    past_one : (x : A) (xs : List A) (start : ℕ) → drop start s ≡ flat_map f (x ∷ xs) ++ r → drop (start + w) s ≡ flat_map f xs ++ r
    past_one x xs start d =
        sym (drop-drop w start s) ∙ (ap (drop w) (d ∙ append_assoc (f x) (flat_map f xs) r) ∙ drop_at (f x) (flat_map f xs ++ r) w (wide x))

    pub item_there : (xs : List A) (d : A) (start : ℕ) → drop start s ≡ flat_map f xs ++ r → (i : ℕ) → i < length xs → (ys : List ℕ) × (drop (start + w * i) s ≡ f (get_or xs i d) ++ ys)
    item_there [] d start e i h = absurd (omega arith)
    item_there (x ∷ xs) d start e zero h =
        let q : start ≡ start + w * 0 = omega arith in
        (flat_map f xs ++ r, rw (← q) (e ∙ append_assoc (f x) (flat_map f xs) r))
    item_there (x ∷ xs) d start e (suc i) h =
        let q : start + w + w * i ≡ start + w * suc i = omega (arith, mul-suc w i) in
        let t = item_there xs d (start + w) (past_one x xs start e) i (omega arith) in
        (t.0, rw (← q) t.1)

    pub table_past : (xs : List A) (start : ℕ) → drop start s ≡ flat_map f xs ++ r → drop (start + w * length xs) s ≡ r
    table_past xs start e = sym (drop-drop (w * length xs) start s) ∙ (ap (drop (w * length xs)) e ∙ drop_at (flat_map f xs) r (w * length xs) (length_joined xs))

pub wide_instruction : (x : Instruction) → length (encode_instruction x) ≡ instruction_size
wide_instruction (Const c) = refl
wide_instruction (Knob a) = refl
wide_instruction (Add a b) = refl
wide_instruction (Sub a b) = refl
wide_instruction (Mul a b) = refl
wide_instruction (Sqr a) = refl
wide_instruction (Min a b) = refl
wide_instruction (Shr a b) = refl

pub after_one : (s : List ℕ) (p x : ℕ) (ys : List ℕ) → drop p s ≡ x ∷ ys → drop (p + 1) s ≡ ys
after_one s p x ys d = sym (drop-drop 1 p s) ∙ ap (drop 1) d
