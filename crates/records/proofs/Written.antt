-- What was read without a fault is written as the bytes that it was read from: numbers, entries, tables.
use Rattle.std.proofs.Common.{◌≡◌, ℕ, zero, suc, ◌+◌, ◌*◌, ◌^◌, ◌<◌, ◌≤◌, List, [], ◌∷◌, ◌++◌, length, drop, None, sym, refl, ap, ◌∙◌, append_assoc, add_assoc, mul-suc, arith, w16, w32, to_z}
use Rattle.std.proofs.lemmas.List.{drop_more, flat_map_more}
use Rattle.std.proofs.lemmas.Int.{of_z-to_z}
use Rattle.std.specs.List.{flat_map}
use Rattle.records.specs.Numbers.{byte, nat16, nat32, int16, int32, bytes16, bytes32, signed16, signed32, Bytes}
use Rattle.records.specs.Places.{side_size, instruction_size, target_size}
use Rattle.records.specs.Faults.{listed}
use Rattle.records.specs.Entries.{decoded, instruction_at, instruction_fault, side_at, target_at}
use Rattle.records.specs.Encoding.{row, encode_side, encode_instruction, encode_target}
use Rattle.records.proofs.Digits.{split16, split32, zero_bits}
use Rattle.records.proofs.Goods.{Row, row_kept}
use Rattle.records.proofs.Runs.{listed_more}

-- an instruction whose fields keep the rules is written as those fields
row_back : (code a b n : ℕ) (knobs k : ℕ) → n < 2 ^ 32 → Row code a b (to_z w32 n) knobs k → encode_instruction (decoded code a b (to_z w32 n)) ≡ row code a b n
row_back zero a b n knobs k h g =
    let ea : a ≡ 0 = omega (arith, g.first_operand) in
    let eb : b ≡ 0 = omega (arith, g.second_operand) in
    rw (of_z-to_z w32 n h, ea, eb)
row_back (suc zero) a b n knobs k h g =
    let eb : b ≡ 0 = omega (arith, g.second_operand) in
    rw (zero_bits n h g.number, eb)
row_back (suc (suc zero)) a b n knobs k h g = rw (zero_bits n h g.number)
row_back (suc (suc (suc zero))) a b n knobs k h g = rw (zero_bits n h g.number)
row_back (suc (suc (suc (suc zero)))) a b n knobs k h g = rw (zero_bits n h g.number)
row_back (suc (suc (suc (suc (suc zero))))) a b n knobs k h g =
    let eb : b ≡ 0 = omega (arith, g.second_operand) in
    rw (zero_bits n h g.number, eb)
row_back (suc (suc (suc (suc (suc (suc zero)))))) a b n knobs k h g = rw (zero_bits n h g.number)
row_back (suc (suc (suc (suc (suc (suc (suc zero))))))) a b n knobs k h g = rw (zero_bits n h g.number)
row_back (suc (suc (suc (suc (suc (suc (suc (suc m)))))))) a b n knobs k h g = absurd (omega (arith, g.known))

module _ (s : List ℕ) (b : Bytes s) where
  small32 : (at : ℕ) → nat32 s at < 2 ^ 32
  small32 at = omega (arith, b at, b (at + 1), b (at + 2), b (at + 3))

  -- what stands at a place, byte by byte
  pub drop1 : (at : ℕ) → at + 1 ≤ length s → drop at s ≡ byte s at ∷ drop (at + 1) s
  drop1 at h = drop_more s at 0 (omega arith)

  drop2 : (at : ℕ) → at + 2 ≤ length s → drop at s ≡ byte s at ∷ byte s (at + 1) ∷ drop (at + 2) s
  drop2 at h =
      let f = simp add_assoc at (drop1 (at + 1) (omega arith)) in
      cc (drop1 at (omega arith))

  drop3 : (at : ℕ) → at + 3 ≤ length s → drop at s ≡ byte s at ∷ byte s (at + 1) ∷ byte s (at + 2) ∷ drop (at + 3) s
  drop3 at h =
      let f = simp add_assoc at (drop1 (at + 2) (omega arith)) in
      cc (drop2 at (omega arith))

  drop4 : (at : ℕ) → at + 4 ≤ length s → drop at s ≡ byte s at ∷ byte s (at + 1) ∷ byte s (at + 2) ∷ byte s (at + 3) ∷ drop (at + 4) s
  drop4 at h =
      let f = simp add_assoc at (drop2 (at + 2) (omega arith)) in
      cc (drop2 at (omega arith))

  -- a number and what follows it
  module _ (at end : ℕ) where
    pub number16 : at + 2 ≡ end → end ≤ length s → drop at s ≡ bytes16 (nat16 s at) ++ drop end s
    number16 e h = cc (drop2 at (omega arith), split16 _ _ (b at) (b (at + 1)))

    pub number32 : at + 4 ≡ end → end ≤ length s → drop at s ≡ bytes32 (nat32 s at) ++ drop end s
    number32 e h = cc (drop4 at (omega arith), split32 _ _ _ _ (b at) (b (at + 1)) (b (at + 2)) (b (at + 3)))

    integer16 : at + 2 ≡ end → end ≤ length s → drop at s ≡ signed16 (int16 s at) ++ drop end s
    integer16 e h = rw (of_z-to_z w16 (nat16 s at) (omega (arith, b at, b (at + 1)))) (number16 e h)

    integer32 : at + 4 ≡ end → end ≤ length s → drop at s ≡ signed32 (int32 s at) ++ drop end s
    integer32 e h = rw (of_z-to_z w32 (nat32 s at) (small32 at)) (number32 e h)

  -- an entry without a fault
  pub side_back : (at : ℕ) → at + side_size ≤ length s → drop at s ≡ encode_side (side_at s at) ++ drop (at + side_size) s
  side_back at h = rw (← integer16 (at + 2) (at + 4) (omega arith) h) (integer16 at (at + 2) refl (omega arith))

  pub instruction_back : (knobs k at : ℕ) → at + instruction_size ≤ length s → instruction_fault s knobs k at ≡ None
      → drop at s ≡ encode_instruction (instruction_at s at) ++ drop (at + instruction_size) s
  instruction_back knobs k at h e =
      let f = row_back (byte s at) (byte s (at + 1)) (byte s (at + 2)) (nat32 s (at + 3)) knobs k (small32 (at + 3)) (row_kept s knobs k at e) in
      rw f (cc (drop3 at (omega arith), number32 (at + 3) (at + 7) (omega arith) h))

  pub target_back : (at : ℕ) → at + target_size ≤ length s → drop at s ≡ encode_target (target_at s at) ++ drop (at + target_size) s
  target_back at h = cc (drop1 at (omega arith), integer32 (at + 1) (at + 5) (omega arith) (omega arith), integer32 (at + 5) (at + 9) (omega arith) h)

-- entries that follow one another
pub items_back : {A : Type 0} (f : A → List ℕ) (s : List ℕ) (start w : ℕ) (item : ℕ → A) (n : ℕ)
    → ((k : ℕ) → k < n → drop (start + w * k) s ≡ f (item k) ++ drop (start + w * k + w) s)
    → drop start s ≡ flat_map f (listed item n) ++ drop (start + w * n) s
items_back f s start w item zero each = ap (λ (i : ℕ). drop i s) (omega arith)
items_back f s start w item (suc n) each =
    let e : start + w * n + w ≡ start + w * suc n = omega (arith, mul-suc w n) in
    let here = rw e at (each n (omega arith)) in
    items_back f s start w item n (λ k h. each k (omega arith))
    ∙ (ap (λ (x : List ℕ). flat_map f (listed item n) ++ x) here
    ∙ (sym (append_assoc (flat_map f (listed item n)) (f (item n)) _)
    ∙ ap (λ (x : List ℕ). x ++ drop (start + w * suc n) s) (flat_map_more f [] (listed item n) (item n) ∙ ap (flat_map f) (sym (listed_more item n)))))
