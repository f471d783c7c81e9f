-- Roots of whole numbers: how they are worked out, and what they are.
use Rattle.std.proofs.Common.{◌≡◌, ℕ, zero, suc, ◌+◌, ◌*◌, ◌<◌, ◌≤◌, Bool, true, false, cond, leb, ℤ, pos, negsuc, ◌+ℤ◌, ◌-ℤ◌, ◌*ℤ◌, nat_abs, ◌≤ℤ◌, ◌<ℤ◌, refl, ap, ◌∙◌, ⊎_elim, mul-le-mul, arith, leb-false, leb-true}
use Rattle.std.proofs.lemmas.Int.{ints}
use Rattle.std.proofs.lemmas.Bool.{cases_Bool}
use Rattle.whole.specs.Roots.{grown, root_of, root_down, root_up}
use Rattle.whole.specs.Laws.{GreatestRoot, LeastRoot}

-- r is the root of n, rounded down
pub record Root (n r : ℕ) : Type 0 where
  pub low : r * r ≤ n
  pub high : n < suc r * suc r

squares : (r : ℕ) → suc r * suc r ≡ r * r + r + r + 1
squares r = omega arith

grown_by : (n r : ℕ) (t : Bool) → leb (suc r * suc r) (suc n) ≡ t → Root n r → Root (suc n) (cond t (suc r) r)
grown_by n r true e h = let a = leb-true _ _ e in let s = squares (suc r) in record { low = a; high = omega (arith, h.high) }
grown_by n r false e h = let a = leb-false _ _ e in record { low = omega (arith, h.low); high = a }

pub root_is : (n : ℕ) → Root n (root_of n)
unfolding root_of grown
root_is zero = record { low = omega arith; high = omega arith }
root_is (suc n) = grown_by n (root_of n) _ refl (root_is n)

-- a root is at most any other number's root whose square passes it
pub root_le : (a b n : ℕ) → a * a ≤ n → n < suc b * suc b → a ≤ b
root_le a b n l h = ⊎_elim
    (λ e. leb-true a b e)
    (λ e. let k : suc b ≤ a = leb-false a b e in let s = mul-le-mul k k in absurd (omega arith))
    (cases_Bool (leb a b))

pub root_unique : (n r : ℕ) → Root n r → r ≡ root_of n
root_unique n r h =
    let o = root_is n in
    let a = root_le r (root_of n) n h.low o.high in
    let b = root_le (root_of n) r n o.low h.high in
    omega arith

pub greatest_root : (n : ℤ) → pos 0 ≤ℤ n → GreatestRoot n (root_down n)
unfolding root_down
greatest_root (pos n) p = let o = root_is n in record {
  square = omega (arith, ints, o.low);
  greatest = λ x h. under x h;
}
  where
    under : (x : ℤ) → (x *ℤ x) ≤ℤ pos n → x ≤ℤ pos (root_of n)
    under (pos a) h = let k = root_le a (root_of n) n (omega (arith, ints)) (root_is n).high in omega (arith, ints)
    under (negsuc a) h = omega (arith, ints)
greatest_root (negsuc n) p = absurd (omega (arith, ints))

pub least_root : (n : ℤ) → LeastRoot n (root_up n)
unfolding root_up
least_root (pos zero) = record { from = omega (arith, ints); square = omega (arith, ints); least = λ x p h. p }
least_root (pos (suc n)) = let o = root_is n in record {
  from = omega (arith, ints);
  square = omega (arith, ints, o.high);
  least = λ x p h. over x p h;
}
  where
    over : (x : ℤ) → pos 0 ≤ℤ x → pos (suc n) ≤ℤ (x *ℤ x) → pos (suc (root_of n)) ≤ℤ x
    over (pos zero) p h = absurd (omega (arith, ints))
    over (pos (suc a)) p h = let k = root_le (root_of n) a n (root_is n).low (omega (arith, ints)) in omega (arith, ints)
    over (negsuc a) p h = absurd (omega (arith, ints))
least_root (negsuc n) = record { from = omega (arith, ints); square = omega (arith, ints); least = λ x p h. p }

-- what the standard library's root ensures
abbrev pub Rooted : ℤ → ℤ → Type 0
Rooted n r = (x : ℕ) × (r ≡ pos x) × (x * x ≤ nat_abs n) × (nat_abs n < (x + 1) * (x + 1))

pub greatest_of : (n r : ℤ) → pos 0 ≤ℤ n → Rooted n r → r ≡ root_down n
unfolding root_down
greatest_of (pos n) r p h = h.1 ∙ ap pos (root_unique n h.0 (record { low = h.2; high = omega (arith, h.3) }))
greatest_of (negsuc n) r p h = absurd (omega (arith, ints))

pub greatest_none : (n : ℤ) → n <ℤ pos 0 → negsuc 0 ≡ root_down n
unfolding root_down
greatest_none (pos n) p = absurd (omega (arith, ints))
greatest_none (negsuc n) p = refl

pub least_of : (n r : ℤ) → pos 0 <ℤ n → Rooted (n -ℤ pos 1) r → r +ℤ pos 1 ≡ root_up n
unfolding root_up
least_of (pos zero) r p h = absurd (omega (arith, ints))
least_of (pos (suc n)) r p h =
    let e : pos (suc n) -ℤ pos 1 ≡ pos n = omega (arith, ints) in
    let k : Rooted (pos n) r = rw e at h in
    let u = root_unique n k.0 (record { low = k.2; high = omega (arith, k.3) }) in
    let q = k.1 in
    omega (arith, ints)
least_of (negsuc n) r p h = absurd (omega (arith, ints))

pub least_none : (n : ℤ) → n ≤ℤ pos 0 → pos 0 ≡ root_up n
unfolding root_up
least_none (pos zero) p = refl
least_none (pos (suc n)) p = absurd (omega (arith, ints))
least_none (negsuc n) p = refl
