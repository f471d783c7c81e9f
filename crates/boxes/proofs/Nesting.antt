-- A box lies inside another exactly where each of its sides lies within the other's.
use Rattle.std.proofs.Common.{◌≡◌, ℕ, zero, suc, ◌<◌, Bool, true, false, List, [], ◌∷◌, map, length, get_or, ℤ, pos, ◌≤ℤ◌, Decides, sym, refl, ap, subst, arith}
use lib.Signed.{le_z}
use Rattle.std.proofs.Math.Bool.{and-false}
use Rattle.std.proofs.lemmas.List.{get_or-map, length-map}
use Rattle.std.proofs.lemmas.Int.{ints}
use Rattle.std.proofs.lemmas.Bool.{and_parts, and_from, false≢true, false_from_ne_true}
use Rattle.std.specs.Bool.{MatchBool}
use Rattle.std.specs.List.{AllWithin, HoldsAt, zip}
use Rattle.whole.proofs.Products.{is_le, le_in}
use Rattle.boxes.specs.Boxes.{Among, Ends, In, Part, covers, nested, nought}
use Rattle.boxes.specs.Views.{ends_of}
use Rattle.boxes.specs.declared.side.Side.{Side}
use Rattle.boxes.proofs.Counting.{InOrder}

-- the ends e lie within the ends f
pub record Covered (f e : Ends) : Type 0 where
  pub low : f.lo ≤ℤ e.lo
  pub high : e.hi ≤ℤ f.hi

pub covered_in : (f e : Ends) → covers f e ≡ true → Covered f e
covered_in f e t = let p = and_parts (le_z f.lo e.lo) (le_z e.hi f.hi) t in record { low = le_in _ _ p.0; high = le_in _ _ p.1 }

pub covered_out : (f e : Ends) → Covered f e → covers f e ≡ true
covered_out f e c = and_from _ _ (is_le _ _ c.low) (is_le _ _ c.high)

-- a side with its ends in order lies within another exactly where each of its numbers is one of the other's
pub covers_decides : (f e : Ends) (r : Bool) → e.lo ≤ℤ e.hi → r ≡ covers f e → Decides r (Among e f)
covers_decides f e r o q = subst (λ t. Decides t (Among e f)) (sym q) (
  (λ t x l h. let c = covered_in f e t in (omega (arith, ints), omega (arith, ints))),
  (λ a. covered_out f e (record { low = (a e.lo (omega (arith, ints)) o).0; high = (a e.hi o (omega (arith, ints))).1 })),
)

-- the boxes have the same knobs, and each side of the first lies within the other's
pub record Nested (box other : List Ends) : Type 0 where
  pub knobs : length box ≡ length other
  pub sides : (n : ℕ) → n < length box → Covered (get_or other n nought) (get_or box n nought)

pub nested_in : (box other : List Ends) → nested box other ≡ true → Nested box other
unfolding nested
nested_in [] [] t = record { knobs = refl; sides = λ n h. absurd (omega arith) }
nested_in [] (f ∷ other) t = absurd (false≢true t)
nested_in (e ∷ box) [] t = absurd (false≢true t)
nested_in (e ∷ box) (f ∷ other) t =
    let p = and_parts (covers f e) (nested box other) t in
    let r = nested_in box other p.1 in
    record { knobs = ap suc r.knobs; sides = each (covered_in f e p.0) r.sides }
  where
    each : Covered f e → ((n : ℕ) → n < length box → Covered (get_or other n nought) (get_or box n nought)) → (n : ℕ) → n < length (e ∷ box) → Covered (get_or (f ∷ other) n nought) (get_or (e ∷ box) n nought)
    each c r zero h = c
    each c r (suc n) h = r n (omega arith)

pub nested_out : (box other : List Ends) → Nested box other → nested box other ≡ true
unfolding nested
nested_out [] [] r = refl
nested_out [] (f ∷ other) r = absurd (omega arith)
nested_out (e ∷ box) [] r = absurd (omega arith)
nested_out (e ∷ box) (f ∷ other) r =
    and_from _ _ (covered_out f e (r.sides 0 (omega arith))) (nested_out box other (record { knobs = omega arith; sides = λ n h. r.sides (suc n) (omega arith) }))

pub nested_not : (box other : List Ends) → (Nested box other → ⊥) → nested box other ≡ false
nested_not box other n = false_from_ne_true (nested box other) (λ e. n (nested_in box other e))

-- the settings of all low ends and of all high ends
module _ (box : List Ends) (o : InOrder box) where
  abbrev pub lows : List ℤ
  lows = map (λ e. e.lo) box

  abbrev pub highs : List ℤ
  highs = map (λ e. e.hi) box

  pub low_at : (n : ℕ) → n < length box → get_or lows n (pos 0) ≡ (get_or box n nought).lo
  low_at n h = get_or-map (λ (e : Ends). e.lo) box n nought (pos 0) h

  pub high_at : (n : ℕ) → n < length box → get_or highs n (pos 0) ≡ (get_or box n nought).hi
  high_at n h = get_or-map (λ (e : Ends). e.hi) box n nought (pos 0) h

  pub lows_in : In box lows
  lows_in = record {
    knobs = length-map box (λ e. e.lo);
    from = λ n h. omega (arith, ints, low_at n h);
    to = λ n h. omega (arith, ints, low_at n h, o n h);
  }

  pub highs_in : In box highs
  highs_in = record {
    knobs = length-map box (λ e. e.hi);
    from = λ n h. omega (arith, ints, high_at n h, o n h);
    to = λ n h. omega (arith, ints, high_at n h);
  }

  -- a box whose settings are all the other's has its sides within the other's
  pub part_nested : (other : List Ends) → Part box other → Nested box other
  part_nested other p =
      let a = p lows lows_in in
      let b = p highs highs_in in
      let l = length-map box (λ e. e.lo) in
      record {
        knobs = omega arith;
        sides = λ n h.
            let u = low_at n h in
            let v = high_at n h in
            let f = a.from n (omega arith) in
            let t = b.to n (omega arith) in
            record { low = omega (arith, ints); high = omega (arith, ints) };
      }

-- and the other way round
pub nested_part : (box other : List Ends) → Nested box other → Part box other
nested_part box other r s i = record {
  knobs = omega arith;
  from = λ n h. let c = r.sides n (omega arith) in let f = i.from n (omega arith) in omega (arith, ints);
  to = λ n h. let c = r.sides n (omega arith) in let t = i.to n (omega arith) in omega (arith, ints);
}

pub nested_decides : (box other : List Ends) → InOrder box → Decides (nested box other) (Part box other)
nested_decides box other o = (λ t. nested_part box other (nested_in box other t), λ p. nested_out box other (part_nested box o other p))

-- the first side of a pair lies within the second, or does not
abbrev pub PairCovers : Bool → Side × Side → Type 0
PairCovers t p = covers (ends_of p.1) (ends_of p.0) ≡ t

-- what a test of the sides, pair by pair, says of two boxes with as many knobs
pub pairs_nested : (xs ys : List Side) (r : Bool) → length xs ≡ length ys
    → MatchBool r (AllWithin (PairCovers true) (zip xs ys) 0 (length (zip xs ys))) ((k : ℕ) × (k < length (zip xs ys)) × HoldsAt (PairCovers false) (zip xs ys) k)
    → r ≡ nested (map ends_of xs) (map ends_of ys)
unfolding nested
pairs_nested [] [] true e m = refl
pairs_nested [] [] false e m = let h = m.1 in absurd (omega arith)
pairs_nested [] (y ∷ ys) r e m = absurd (omega arith)
pairs_nested (x ∷ xs) [] r e m = absurd (omega arith)
pairs_nested (x ∷ xs) (y ∷ ys) true e m =
    let h : covers (ends_of y) (ends_of x) ≡ true = m 0 (x, y) (omega arith) (omega arith) in
    rw h (pairs_nested xs ys true (omega arith) (λ k d l u. m (suc k) d (omega arith) (omega arith)))
pairs_nested (x ∷ xs) (y ∷ ys) false e (zero, b, h) = let t : covers (ends_of y) (ends_of x) ≡ false = h (x, y) in rw t refl
pairs_nested (x ∷ xs) (y ∷ ys) false e (suc k, b, h) = rw (← pairs_nested xs ys false (omega arith) (k, omega arith, h)) (sym (and-false _))
