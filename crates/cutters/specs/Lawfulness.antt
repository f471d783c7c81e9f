-- Cutters put together of lawful ones are lawful.
use Rattle.std.specs.Prelude.{◌≡◌, ℕ, zero, suc, List, length, ℤ, Some, None, Option, nat_lt, refl}
use Rattle.std.proofs.Common.{ap, ◌∙◌}
use Rattle.std.proofs.lemmas.Bool.{cond_both}
use Rattle.boxes.specs.Boxes.{Ends, Part}
use Rattle.records.specs.Rules.{Content}
use Rattle.jobs.specs.Meaning.{MayLock}
use Rattle.jobs.specs.Reading.{Sound}
use Rattle.cutters.specs.Cutting.{Lawful, LeftIn, Meaning, StillIn, and_then, idle, in_turn, left_with, repeated}

pub idle_lawful : Lawful idle
idle_lawful = record {
  inside = λ c box s p. (p, λ setting i. i);
  keeps = λ c box s p setting i m. i;
  elsewhere = λ c box n. refl;
}

-- what lies within what lies within the box lies within the box
pub left_through : (a box : List Ends) (o : Option (List Ends)) → Part a box → LeftIn a o → LeftIn box o
left_through a box None p l = tt
left_through a box (Some b) p l = (l.0, λ setting i. p setting (l.1 setting i))

module _ (f g : Meaning) (F : Lawful f) (G : Lawful g) where
  turn_inside : (c : Content) (box : List Ends) → Sound c → (o : Option (List Ends)) → LeftIn box o → LeftIn box (and_then o (g c))
  turn_inside c box s None l = tt
  turn_inside c box s (Some a) l = left_through a box (g c a) l.1 (G.inside c a s l.0)

  turn_keeps : (c : Content) (box : List Ends) → Sound c → (setting : List ℤ) → MayLock c setting → (o : Option (List Ends)) → LeftIn box o → StillIn setting o → StillIn setting (and_then o (g c))
  turn_keeps c box s setting m None l i = i
  turn_keeps c box s setting m (Some a) l i = G.keeps c a s l.0 setting i m

  pub seq_lawful : Lawful (in_turn f g)
  seq_lawful = record {
    inside = λ c box s p. turn_inside c box s (f c box) (F.inside c box s p);
    keeps = λ c box s p setting i m. turn_keeps c box s setting m (f c box) (F.inside c box s p) (F.keeps c box s p setting i m);
    elsewhere = λ c box n. ap (λ o. and_then o (g c)) (F.elsewhere c box n) ∙ G.elsewhere c box n;
  }

pub repeat_lawful : (f : Meaning) (n : ℕ) → Lawful f → Lawful (repeated n f)
repeat_lawful f zero F = idle_lawful
repeat_lawful f (suc n) F = seq_lawful f (repeated n f) F (repeat_lawful f n F)

-- scratch of any size keeps the rules
pub rows_lawful : (rows : ℕ) (f : Meaning) → Lawful f → Lawful (left_with rows f)
rows_lawful rows f F = record {
  inside = λ c box s p. cond_both (nat_lt rows (length c.program)) (Some box) (f c box) (LeftIn box) (λ _. (p, λ setting i. i)) (λ _. F.inside c box s p);
  keeps = λ c box s p setting i m. cond_both (nat_lt rows (length c.program)) (Some box) (f c box) (StillIn setting) (λ _. i) (λ _. F.keeps c box s p setting i m);
  elsewhere = λ c box n. cond_both (nat_lt rows (length c.program)) (Some box) (f c box) (λ o. o ≡ Some box) (λ _. refl) (λ _. F.elsewhere c box n);
}
