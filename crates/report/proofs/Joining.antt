-- The sides of a box, one after the other.
use Rattle.std.proofs.Common.{◌≡◌, ℕ, ◌+◌, ◌<◌, List, [], ◌∷◌, ◌++◌, map, length, get_or, take, sym, ap, ◌∙◌, append_assoc}
use Rattle.std.proofs.lemmas.List.{append-nil, map_more}
use Rattle.boxes.specs.Boxes.{Ends}
use Rattle.boxes.specs.Views.{ends_of}
use Rattle.boxes.specs.declared.side.Side.{Side}
use Rattle.report.specs.Lines.{side_text, sides_text}

-- one side more
sides_push : (box : List Ends) (e : Ends) → sides_text (box ++ (e ∷ [])) ≡ sides_text box ++ side_text e
sides_push [] e = append-nil (side_text e)
sides_push (x ∷ box) e = ap (λ t. side_text x ++ t) (sides_push box e) ∙ sym (append_assoc (side_text x) (sides_text box) (side_text e))

sides_more : (sides : List Side) (k : ℕ) (d : Side) → k < length sides → sides_text (map ends_of (take (k + 1) sides)) ≡ sides_text (map ends_of (take k sides)) ++ side_text (ends_of (get_or sides k d))
sides_more sides k d h = ap sides_text (map_more ends_of sides k d h) ∙ sides_push (map ends_of (take k sides)) (ends_of (get_or sides k d))

-- a text with the first sides behind it, and then with one more
pub joined : (sides : List Side) (k : ℕ) (d : Side) (start text after : List ℕ) → k < length sides → d ≡ get_or sides k d → text ≡ start ++ sides_text (map ends_of (take k sides)) → after ≡ text ++ side_text (ends_of d)
    → after ≡ start ++ sides_text (map ends_of (take (k + 1) sides))
joined sides k d start text after h e p q = rw (sides_more sides k d h, ← e) (rw (p, append_assoc) at q)
