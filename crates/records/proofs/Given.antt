-- The bytes of an entry that keeps its rule are read back as it, without a fault.
use Rattle.std.proofs.Common.{◌≡◌, ℕ, ◌+◌, ◌≤◌, true, not, ◌&&◌, ltb, leb, List, [], ◌∷◌, ◌++◌, drop, ℤ, pos, negsuc, neg_ℤ, None, sym, refl, ap, ◌∙◌, arith, w16, w32, to_z, of_z}
use Rattle.std.proofs.lemmas.List.{get_or-drop}
use Rattle.std.proofs.lemmas.Int.{ints, to_z-of_z}
use Rattle.std.proofs.lemmas.Nat.{div-add-mod'}
use Rattle.std.proofs.lemmas.Bool.{and_parts, not_from_true, ltb-true, le-ltb, lt-leb}
use Rattle.boxes.specs.Boxes.{Ends, between, good_side}
use Rattle.boxes.proofs.Goods.{between_in, good_in}
use Rattle.records.specs.declared.reason.Reason.TheVariants.{BadInstruction, BadField}
use Rattle.records.specs.declared.target.Target.{Target}
use Rattle.records.specs.declared.instruction.Instruction.{Instruction}
use Rattle.records.specs.declared.instruction.Instruction.TheVariants.{Const, Knob, Add, Sub, Mul, Sqr, Min, Shr}
use Rattle.records.specs.Numbers.{byte, nat16, nat32, int16, int32}
use Rattle.records.specs.Faults.{when, first}
use Rattle.records.specs.Rules.{bound, bounded, good_instruction, good_target}
use Rattle.records.specs.Entries.{decoded, a_values, b_values, c_reach, reached, instruction_at, instruction_fault, side_at, side_fault, target_at, target_fault}
use Rattle.records.specs.Encoding.{row, encode_side, encode_instruction, encode_target}
use Rattle.records.proofs.Checks.{one_clean, two_clean}
use Rattle.records.proofs.Goods.{Row}
use Rattle.records.proofs.Digits.{fits16, fits32, join32}

-- what is read at a place where known bytes stand
module _ (s : List ℕ) (p : ℕ) (y : List ℕ) (d : drop p s ≡ y) where
  pub byte_there : (j q : ℕ) → q ≡ p + j → byte s q ≡ byte y j
  byte_there j q e = ap (byte s) e ∙ (sym (get_or-drop p s j 0) ∙ ap (λ (l : List ℕ). byte l j) d)

  nat16_there : (j q : ℕ) → q ≡ p + j → nat16 s q ≡ nat16 y j
  nat16_there j q e = rw (byte_there j q e, byte_there (j + 1) (q + 1) (omega arith))

  nat32_there : (j q : ℕ) → q ≡ p + j → nat32 s q ≡ nat32 y j
  nat32_there j q e = rw (byte_there j q e, byte_there (j + 1) (q + 1) (omega arith), byte_there (j + 2) (q + 2) (omega arith), byte_there (j + 3) (q + 3) (omega arith))

-- a side whose ends are those of a good one
side_clean : (p : ℕ) (l h : ℤ) (x : Ends) → l ≡ x.lo → h ≡ x.hi → good_side x ≡ true
    → (record { lo = l; hi = h } ≡ x)
    × (first (when (not (between (negsuc 16383) l (pos 16383))) BadField p ∷ when (not (between l h (pos 16383))) BadField (p + 2) ∷ []) ≡ None)
side_clean p l h x el eh g =
    let b = and_parts (between (negsuc 16383) x.lo (pos 16383)) (between x.lo x.hi (pos 16383)) g in
    rw (el, eh) (refl, two_clean _ _ BadField p (p + 2) b.0 b.1)

-- a target whose fields are those of a good one
target_clean : (registers p n : ℕ) (l h : ℤ) (x : Target) → n ≡ x.register → l ≡ x.low → h ≡ x.high → good_target registers x ≡ true
    → (record { register = n; low = l; high = h } ≡ x)
    × (first (when (leb registers n) BadField p ∷ when (not (bounded l)) BadField (p + 1) ∷ when (not (between l h (pos bound))) BadField (p + 5) ∷ []) ≡ None)
target_clean registers p n l h x en el eh g =
    let a = and_parts (ltb x.register registers) (bounded x.low && between x.low x.high (pos bound)) g in
    let b = and_parts (bounded x.low) (between x.low x.high (pos bound)) a.1 in
    rw (en, el, eh) (
      refl,
      one_clean (leb registers x.register) BadField p _ (lt-leb registers x.register (ltb-true _ _ a.0))
          (two_clean _ _ BadField (p + 1) (p + 5) b.0 b.1),
    )

-- an instruction whose fields keep the rules
pub row_clean : (p code a b : ℕ) (c : ℤ) (knobs k n x y : ℕ) (z : ℤ) → n ≡ code → x ≡ a → y ≡ b → z ≡ c → Row code a b c knobs k
    → (decoded n x y z ≡ decoded code a b c)
    × (first (when (ltb 7 n) BadInstruction p
    ∷ when (leb (a_values n knobs k) x) BadInstruction (p + 1)
    ∷ when (leb (b_values n k) y) BadInstruction (p + 2)
    ∷ when (not (reached n z)) BadInstruction (p + 3)
    ∷ []) ≡ None)
row_clean p code a b c knobs k n x y z en ex ey ez g =
    rw (en, ex, ey, ez) (
      refl,
      one_clean (ltb 7 code) BadInstruction p _ (le-ltb _ _ g.known)
          (one_clean (leb (a_values code knobs k) a) BadInstruction (p + 1) _ (lt-leb _ _ g.first_operand)
          (one_clean (leb (b_values code k) b) BadInstruction (p + 2) _ (lt-leb _ _ g.second_operand)
          (one_clean (not (reached code c)) BadInstruction (p + 3) None (not_from_true _ g.number) refl))),
    )

module _ (s : List ℕ) (p : ℕ) (r : List ℕ) where
  pub side_given : (x : Ends) → good_side x ≡ true → drop p s ≡ encode_side x ++ r → (side_at s p ≡ x) × (side_fault s p ≡ None)
  side_given x g d =
      let o = good_in x g in
      let lf = fits16 x.lo o.above (omega (arith, ints, o.order, o.below)) in
      let hf = fits16 x.hi (omega (arith, ints, o.above, o.order)) o.below in
      side_clean p (int16 s p) (int16 s (p + 2)) x
      (rw (nat16_there s p (encode_side x ++ r) d 0 p (omega arith), div-add-mod' (of_z w16 x.lo) 256) (to_z-of_z w16 x.lo lf))
      (rw (nat16_there s p (encode_side x ++ r) d 2 (p + 2) refl, div-add-mod' (of_z w16 x.hi) 256) (to_z-of_z w16 x.hi hf))
      g

  pub target_given : (registers : ℕ) (x : Target) → good_target registers x ≡ true → drop p s ≡ encode_target x ++ r → (target_at s p ≡ x) × (target_fault s registers p ≡ None)
  target_given registers x g d =
      let a = and_parts (ltb x.register registers) (bounded x.low && between x.low x.high (pos bound)) g in
      let b = and_parts (bounded x.low) (between x.low x.high (pos bound)) a.1 in
      let l = between_in (neg_ℤ (pos bound)) x.low (pos bound) b.0 in
      let h = between_in x.low x.high (pos bound) b.1 in
      let lf = fits32 x.low l.low l.high in
      let hf = fits32 x.high (omega (arith, ints, l.low, h.low)) h.high in
      target_clean registers p (byte s p) (int32 s (p + 1)) (int32 s (p + 5)) x
      (byte_there s p (encode_target x ++ r) d 0 p (omega arith))
      (ap (to_z w32) (nat32_there s p (encode_target x ++ r) d 1 (p + 1) refl ∙ join32 (of_z w32 x.low)) ∙ to_z-of_z w32 x.low lf)
      (ap (to_z w32) (nat32_there s p (encode_target x ++ r) d 5 (p + 5) refl ∙ join32 (of_z w32 x.high)) ∙ to_z-of_z w32 x.high hf)
      g

  module _ (knobs k : ℕ) where
    row_given : (code a b n : ℕ) (c : ℤ) → to_z w32 n ≡ c → Row code a b c knobs k → drop p s ≡ row code a b n ++ r
        → (instruction_at s p ≡ decoded code a b c) × (instruction_fault s knobs k p ≡ None)
    row_given code a b n c e g d =
        row_clean p code a b c knobs k (byte s p) (byte s (p + 1)) (byte s (p + 2)) (int32 s (p + 3))
        (byte_there s p (row code a b n ++ r) d 0 p (omega arith))
        (byte_there s p (row code a b n ++ r) d 1 (p + 1) refl)
        (byte_there s p (row code a b n ++ r) d 2 (p + 2) refl)
        (ap (to_z w32) (nat32_there s p (row code a b n ++ r) d 3 (p + 3) refl ∙ join32 n) ∙ e)
        g

    binary : (code a b n : ℕ) → code ≤ 7 → a_values code knobs k ≡ k → b_values code k ≡ n → c_reach code ≡ 0 → (ltb a k && ltb b n) ≡ true → Row code a b (pos 0) knobs k
    binary code a b n h ea eb ec g =
        let w = and_parts (ltb a k) (ltb b n) g in
        record { known = h; first_operand = rw ea (ltb-true a k w.0); second_operand = rw eb (ltb-true b n w.1); number = rw ec }

    pub instruction_given : (x : Instruction) → good_instruction knobs k x ≡ true → drop p s ≡ encode_instruction x ++ r → (instruction_at s p ≡ x) × (instruction_fault s knobs k p ≡ None)
    instruction_given (Const c) g d =
        let l = between_in (neg_ℤ (pos bound)) c (pos bound) g in
        row_given 0 0 0 (of_z w32 c) c (to_z-of_z w32 c (fits32 c l.low l.high)) (record { known = omega arith; first_operand = omega arith; second_operand = omega arith; number = g }) d
    instruction_given (Knob a) g d = row_given 1 a 0 0 (pos 0) refl (record { known = omega arith; first_operand = ltb-true a knobs g; second_operand = omega arith; number = refl }) d
    instruction_given (Add a b) g d = row_given 2 a b 0 (pos 0) refl (binary 2 a b k (omega arith) refl refl refl g) d
    instruction_given (Sub a b) g d = row_given 3 a b 0 (pos 0) refl (binary 3 a b k (omega arith) refl refl refl g) d
    instruction_given (Mul a b) g d = row_given 4 a b 0 (pos 0) refl (binary 4 a b k (omega arith) refl refl refl g) d
    instruction_given (Sqr a) g d = row_given 5 a 0 0 (pos 0) refl (record { known = omega arith; first_operand = ltb-true a k g; second_operand = omega arith; number = refl }) d
    instruction_given (Min a b) g d = row_given 6 a b 0 (pos 0) refl (binary 6 a b k (omega arith) refl refl refl g) d
    instruction_given (Shr a b) g d = row_given 7 a b 0 (pos 0) refl (binary 7 a b 31 (omega arith) refl refl refl g) d
