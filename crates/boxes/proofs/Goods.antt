-- Which ends are a knob's side.
use Rattle.std.proofs.Common.{◌≡◌, true, ℤ, pos, negsuc, ◌≤ℤ◌, Some, None, Option, refl, arith}
use lib.Signed.{le_z}
use Rattle.std.proofs.lemmas.Int.{ints}
use Rattle.std.proofs.lemmas.Bool.{and_parts, and_from, cond_both, both_ways}
use Rattle.whole.specs.Laws.{Amid}
use Rattle.whole.proofs.Products.{is_le, le_in}
use Rattle.boxes.specs.Boxes.{Ends, between, good_side}
use Rattle.boxes.specs.Views.{side}

-- a number lies between where the test says so
pub between_in : (l x h : ℤ) → between l x h ≡ true → Amid l x h
between_in l x h e = let p = and_parts (le_z l x) (le_z x h) e in record { low = le_in l x p.0; high = le_in x h p.1 }

pub between_out : (l x h : ℤ) → Amid l x h → between l x h ≡ true
between_out l x h p = and_from _ _ (is_le l x p.low) (is_le x h p.high)

-- the ends of a knob's side
pub record Good (e : Ends) : Type 0 where
  pub above : negsuc 16383 ≤ℤ e.lo
  pub order : e.lo ≤ℤ e.hi
  pub below : e.hi ≤ℤ pos 16383

pub good_in : (e : Ends) → good_side e ≡ true → Good e
good_in e t =
    let p = and_parts (between (negsuc 16383) e.lo (pos 16383)) (between e.lo e.hi (pos 16383)) t in
    let a = between_in (negsuc 16383) e.lo (pos 16383) p.0 in
    let b = between_in e.lo e.hi (pos 16383) p.1 in
    record { above = a.low; order = b.low; below = b.high }

pub good_out : (e : Ends) → Good e → good_side e ≡ true
good_out e g =
    and_from _ _
    (between_out _ _ _ (record { low = g.above; high = omega (arith, ints) }))
    (between_out _ _ _ (record { low = g.order; high = g.below }))

pub side_by : (e : Ends) (P : Option Ends → Type 0) → (Good e → P (Some e)) → ((Good e → ⊥) → P None) → P (side e)
unfolding side
side_by e P is not = cond_both (good_side e) (Some e) None P (λ t. is (good_in e t)) (λ f. not (λ g. both_ways (good_side e) f (good_out e g)))

pub side_some : (e : Ends) → Good e → side e ≡ Some e
side_some e g = side_by e (λ o. o ≡ Some e) (λ _. refl) (λ n. absurd (n g))

pub side_none : (e : Ends) → (Good e → ⊥) → side e ≡ None
side_none e n = side_by e (λ o. o ≡ None) (λ g. absurd (n g)) (λ _. refl)

-- a side with those ends is the answer
pub side_is : (l h l' h' : ℤ) → l ≡ l' → h ≡ h' → Good (record { lo = l'; hi = h' }) → Some (record { lo = l; hi = h }) ≡ side (record { lo = l'; hi = h' })
side_is l h l' h' p q g = let y = side_some (record { lo = l'; hi = h' }) g in cc
