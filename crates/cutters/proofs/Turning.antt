-- Turns of a repeat: what is left gives the whole, and ending early changes nothing.
use Rattle.std.proofs.Common.{◌≡◌, ℕ, zero, suc, ◌+◌, ◌-◌, ◌<◌, ◌≤◌, Bool, true, false, cond, ltb, List, length, get_or, is_some, Some, None, Option, unwrap_or, sym, refl, ap, ◌∙◌, arith}
use Rattle.std.proofs.lemmas.List.{ext_get_or}
use Rattle.std.proofs.lemmas.Int.{ints}
use Rattle.std.proofs.lemmas.Bool.{false≢true, true≢false}
use Rattle.boxes.specs.Boxes.{Ends, Part, nested, nought}
use Rattle.boxes.specs.Views.{sides_of}
use Rattle.boxes.specs.declared.region.Region.{Region}
use Rattle.boxes.proofs.Counting.{InOrder}
use Rattle.boxes.proofs.Listed.{region_in_order}
use Rattle.boxes.proofs.Nesting.{Covered, nested_in, part_nested}
use Rattle.ranges.specs.declared.row.Row.{Row}
use Rattle.records.specs.Rules.{Content}
use Rattle.jobs.specs.declared.job.Job.{Job}
use Rattle.jobs.specs.Reading.{content_of}
use Rattle.cutters.specs.Cutting.{Lawful, Meaning, again, and_then, cut_to, left_with, repeated}
use Rattle.cutters.specs.Lawfulness.{repeat_lawful}
use Rattle.cutters.proofs.Safety.{Answers, left_is}

-- a flag and a box beside it give back what was left
pub nothing_left : (o : Option (List Ends)) → is_some o ≡ false → o ≡ None
nothing_left None e = refl
nothing_left (Some a) e = absurd (true≢false e)

pub something_left : (o : Option (List Ends)) (before after : List Ends) → is_some o ≡ true → after ≡ unwrap_or o before → o ≡ Some after
something_left None before after e q = absurd (false≢true e)
something_left (Some a) before after e q = ap Some (sym q)

module _ (f : List Ends → Option (List Ends)) where
  turn : (n i : ℕ) (box : List Ends) → i < n → again f (n - i) box ≡ and_then (f box) (again f (n - (i + 1)))
  turn n i box h = let e : n - i ≡ suc (n - (i + 1)) = omega arith in ap (λ m. again f m box) e

  -- where a turn changes nothing, no further turn does
  pub turn_same : (m : ℕ) (box : List Ends) → f box ≡ Some box → again f m box ≡ Some box
  turn_same zero box e = refl
  turn_same (suc m) box e = ap (λ o. and_then o (again f m)) e ∙ turn_same m box e

  pub turns_over : (n i : ℕ) (box : List Ends) → n ≤ i → again f (n - i) box ≡ Some box
  turns_over n i box h = let e : n - i ≡ 0 = omega arith in ap (λ m. again f m box) e

-- a repeat over scratch of any size is the repeat of its turns over that scratch
idle_turns : (n : ℕ) (box : List Ends) → again (λ b. Some b) n box ≡ Some box
idle_turns zero box = refl
idle_turns (suc n) box = idle_turns n box

pub repeat_with : (rows n : ℕ) (f : Meaning) (c : Content) (box : List Ends) → left_with rows (repeated n f) c box ≡ again (left_with rows f c) n box
repeat_with rows n f c box = go (ltb rows (length c.program))
  where
    go : (b : Bool) → cond b (Some box) (again (f c) n box) ≡ again (λ x. cond b (Some x) (f c x)) n box
    go true = sym (idle_turns n box)
    go false = refl

-- two boxes that lie inside each other are one
ends_same : (e f : Ends) → Covered f e → Covered e f → e ≡ f
ends_same e f p q =
    let l : e.lo ≡ f.lo = omega (arith, ints) in
    let h : e.hi ≡ f.hi = omega (arith, ints) in
    (λ i. record { lo = l i; hi = h i })

pub box_same : (a b : List Ends) → InOrder b → nested a b ≡ true → Part b a → b ≡ a
box_same a b o t p =
    let m = nested_in a b t in
    let n = part_nested b o a p in
    ext_get_or nought b a n.knobs (λ i h. ends_same (get_or b i nought) (get_or a i nought) (n.sides i h) (m.sides i (let k = n.knobs in omega arith)))

-- a repeat after i of its n turns, where the turns that are left give what all of them give
module _ (f : Meaning) (F : Lawful f) (j : Job) (start : Region) (rows : List Row) (n i : ℕ) (now : Region) (left : List Row) (long : length left ≡ length rows)
    (so_far : again (left_with (length rows) f (content_of j)) (n - i) (sides_of now) ≡ again (left_with (length rows) f (content_of j)) n (sides_of start)) where
  abbrev step : List Ends → Option (List Ends)
  step = left_with (length rows) f (content_of j)

  here : cut_to f j now left ≡ step (sides_of now)
  here = ap (λ m. left_with m f (content_of j) (sides_of now)) long

  turned : (o : Option (List Ends)) → i < n → step (sides_of now) ≡ o → again step (n - i) (sides_of now) ≡ and_then o (again step (n - (i + 1)))
  turned o h e = turn step n i (sides_of now) h ∙ ap (λ x. and_then x (again step (n - (i + 1)))) e

  whole : (o : Option (List Ends)) → again step (n - i) (sides_of now) ≡ o → Answers (repeated n f) j start rows (is_some o) (unwrap_or o (sides_of start))
  whole o e = left_is (repeated n f) (repeat_lawful f n F) j start rows o (repeat_with (length rows) n f (content_of j) (sides_of start) ∙ sym so_far ∙ e)

  -- it ends where a turn leaves nothing
  pub ends_nowhere : i < n → false ≡ is_some (cut_to f j now left) → Answers (repeated n f) j start rows false (sides_of start)
  ends_nowhere h e = whole None (turned None h (sym here ∙ nothing_left _ (sym e)))

  -- or where the box lies within what the turn left of it
  pub ends_alike : (after : Region) → true ≡ is_some (cut_to f j now left) → sides_of after ≡ unwrap_or (cut_to f j now left) (sides_of now) →
      true ≡ nested (sides_of now) (sides_of after) → Part (sides_of after) (sides_of now) → Answers (repeated n f) j start rows true (sides_of after)
  ends_alike after e q t p =
      let same = box_same (sides_of now) (sides_of after) (region_in_order after) (sym t) p in
      whole (Some (sides_of after)) (turn_same step (n - i) (sides_of now) (sym here ∙ something_left _ (sides_of now) (sides_of after) (sym e) q ∙ ap Some same) ∙ ap Some (sym same))

  -- or after its last turn
  pub ends_over : n ≤ i → Answers (repeated n f) j start rows true (sides_of now)
  ends_over h = whole (Some (sides_of now)) (turns_over step n i (sides_of now) h)

  -- one turn more
  pub turns_on : (after : Region) → i < n → true ≡ is_some (cut_to f j now left) → sides_of after ≡ unwrap_or (cut_to f j now left) (sides_of now) →
      again step (n - (i + 1)) (sides_of after) ≡ again step n (sides_of start)
  turns_on after h e q = sym (turned (Some (sides_of after)) h (sym here ∙ something_left _ (sides_of now) (sides_of after) (sym e) q)) ∙ so_far
