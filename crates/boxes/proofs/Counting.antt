-- The count of a box is the number of its settings.
use Rattle.std.proofs.Common.{◌≡◌, ℕ, zero, suc, ◌+◌, ◌*◌, ◌/◌, ◌%◌, ◌^◌, ◌<◌, ◌≤◌, List, [], ◌∷◌, ◌++◌, map, length, get_or, take, ℤ, pos, ◌+ℤ◌, ◌-ℤ◌, nat_abs, ◌≤ℤ◌, sym, refl, ap, ◌∙◌, mul_assoc, div-lt_iff_lt-mul, mul-le-mul, arith, pow_mono}
use Rattle.std.proofs.Math.Nat.{mul-pos}
use Rattle.std.proofs.lemmas.Nat.{mod_below, pow-add, mul-add-lt, div-mul-add, mod-mul-add, div-add-mod'}
use Rattle.std.proofs.lemmas.List.{get_or-map, length-map, map_more, nil_from_length}
use Rattle.std.proofs.lemmas.Int.{ints}
use Rattle.boxes.specs.Boxes.{Ends, In, Numbered, nought, width, count}
use Rattle.boxes.specs.Views.{ends_of}
use Rattle.boxes.specs.declared.side.Side.{Side}

-- the side of the one number 0
pub zero_side : Side
zero_side = record { low = pos 0; high = pos 0; above = record { le = tt }; order = record { le = tt }; below = record { le = tt } }

-- each low end is at most its high end
abbrev pub InOrder : List Ends → Type 0
InOrder box = (n : ℕ) → n < length box → (get_or box n nought).lo ≤ℤ (get_or box n nought).hi

-- a setting of a box with one side more
in_more : (e : Ends) (box : List Ends) (x : ℤ) (s : List ℤ) → e.lo ≤ℤ x → x ≤ℤ e.hi → In box s → In (e ∷ box) (x ∷ s)
in_more e box x s l h i = record { knobs = ap suc i.knobs; from = low; to = high }
  where
    low : (n : ℕ) → n < length (e ∷ box) → (get_or (e ∷ box) n nought).lo ≤ℤ get_or (x ∷ s) n (pos 0)
    low zero k = l
    low (suc n) k = i.from n (omega arith)

    high : (n : ℕ) → n < length (e ∷ box) → get_or (x ∷ s) n (pos 0) ≤ℤ (get_or (e ∷ box) n nought).hi
    high zero k = h
    high (suc n) k = i.to n (omega arith)

in_less : (e : Ends) (box : List Ends) (x : ℤ) (s : List ℤ) → In (e ∷ box) (x ∷ s) → In box s
in_less e box x s i = record {
  knobs = omega arith;
  from = λ n k. i.from (suc n) (omega arith);
  to = λ n k. i.to (suc n) (omega arith);
}

pub count_pos : (box : List Ends) → 0 < count box
count_pos [] = omega arith
count_pos (e ∷ box) = mul-pos (omega arith) (count_pos box)

-- the settings of a box with one side more: for each number of that side, those of the box
module _ (e : Ends) (box : List Ends) (o : e.lo ≤ℤ e.hi) (r : Numbered (count box) (In box)) where
  nth : ℕ → List ℤ
  nth i = (e.lo +ℤ pos (i / count box)) ∷ r.at (i % count box)

  nth_in : (i : ℕ) → i < width e * count box → In (e ∷ box) (nth i)
  unfolding nth
  nth_in i h =
      let m = count box in
      let p = count_pos box in
      let b : i / m < width e = (div-lt_iff_lt-mul {k = m} p).1 h in
      in_more e box _ _ (omega (arith, ints)) (omega (arith, ints)) (r.only (i % m) (mod_below i m p))

  nth_each : (x : List ℤ) → In (e ∷ box) x → (i : ℕ) × (i < width e * count box) × (nth i ≡ x)
  unfolding nth
  nth_each [] i = absurd (omega arith)
  nth_each (x ∷ s) i =
      let m = count box in
      let t = r.each s (in_less e box x s i) in
      let l = i.from 0 (omega arith) in
      let h = i.to 0 (omega arith) in
      let k = nat_abs (x -ℤ e.lo) in
      let w : k < width e = omega (arith, ints) in
      let u : e.lo +ℤ pos k ≡ x = omega (arith, ints) in
      (k * m + t.0, omega (arith, mul-add-lt k m t.0 (width e) w t.1), rw (div-mul-add k m t.0 t.1, mod-mul-add k m t.0 t.1, u, t.2))

  nth_once : (i j : ℕ) → i < width e * count box → j < width e * count box → nth i ≡ nth j → i ≡ j
  unfolding nth
  nth_once i j h k q =
      let m = count box in
      let p = count_pos box in
      let u : e.lo +ℤ pos (i / m) ≡ e.lo +ℤ pos (j / m) = cc in
      let a : i / m ≡ j / m = omega (arith, ints) in
      let b = r.once (i % m) (j % m) (mod_below i m p) (mod_below j m p) (cc) in
      sym (div-add-mod' i m) ∙ (λ o. a o * m + b o) ∙ div-add-mod' j m

  numbered_more : Numbered (width e * count box) (In (e ∷ box))
  numbered_more = record { at = nth; only = nth_in; each = nth_each; once = nth_once }

pub numbered : (box : List Ends) → InOrder box → Numbered (count box) (In box)
numbered [] o = record {
  at = λ _. [];
  only = λ i h. record { knobs = refl; from = λ n k. absurd (omega arith); to = λ n k. absurd (omega arith) };
  each = λ x p. (0, omega arith, sym (nil_from_length x p.knobs));
  once = λ i j h k e. omega arith;
}
numbered (e ∷ box) o = numbered_more e box (o 0 (omega arith)) (numbered box (λ n h. o (suc n) (omega arith)))

-- one side more at the end
pub count_push : (box : List Ends) (e : Ends) → count (box ++ (e ∷ [])) ≡ count box * width e
count_push [] e = omega arith
count_push (x ∷ box) e = ap (λ n. width x * n) (count_push box e) ∙ sym (mul_assoc (width x) (count box) (width e))

pub sides_in_order : (sides : List Side) → InOrder (map ends_of sides)
sides_in_order sides n h = rw (get_or-map ends_of sides n zero_side nought (omega (arith, length-map sides ends_of))) (get_or sides n zero_side).order

-- a product of counts that keeps within the powers of 2^15
pub product_below : (n w k : ℕ) → n ≤ 2 ^ (15 * k) → w ≤ 32768 → n * w ≤ 2 ^ (15 * (k + 1))
product_below n w k h l =
    let e : 15 * (k + 1) ≡ 15 * k + 15 = omega arith in
    rw (e, pow-add 2 (15 * k) 15) (mul-le-mul h l)

pub power_below : (k : ℕ) → k ≤ 4 → 2 ^ (15 * k) ≤ 2 ^ 60
power_below k h = pow_mono {i = 15 * k} {j = 60} (omega arith)

-- the count of the first sides, with one more
pub count_more : (sides : List Side) (k n : ℕ) (s : Side) → k < length sides → s ≡ get_or sides k s → n ≡ count (map ends_of (take k sides)) →
    n * width (ends_of s) ≡ count (map ends_of (take (k + 1) sides))
count_more sides k n s h e q = rw (q, map_more ends_of sides k s h, count_push, ← e)
