-- Sides, boxes and settings, and how many settings a box has.
use Rattle.std.specs.Prelude.{◌≡◌, ℕ, ◌+◌, ◌*◌, ◌<◌, Bool, true, false, ◌&&◌, List, [], ◌∷◌, length, get_or, ℤ, pos, negsuc, ◌-ℤ◌, ◌≤ℤ◌, int_le, slice_index_or, unsigned_abs}

-- two ends: the numbers from lo to hi
pub record Ends : Type 0 where
  pub lo : ℤ
  pub hi : ℤ

-- the number 0 alone
abbrev pub nought : Ends
nought = record { lo = pos 0; hi = pos 0 }

-- x lies from l to h
abbrev pub between : ℤ → ℤ → ℤ → Bool
between l x h = int_le l x && int_le x h

-- the ends are a knob's numbers, from -16384 to 16383, and the low one does not pass the high one
abbrev pub good_side : Ends → Bool
good_side e = between (negsuc 16383) e.lo (pos 16383) && between e.lo e.hi (pos 16383)

-- the setting has one number for each side of the box, and each lies on its side
pub record In (box : List Ends) (setting : List ℤ) : Type 0 where
  pub knobs : length setting ≡ length box
  pub from : (n : ℕ) → n < length box → (get_or box n nought).lo ≤ℤ slice_index_or setting n (pos 0)
  pub to : (n : ℕ) → n < length box → slice_index_or setting n (pos 0) ≤ℤ (get_or box n nought).hi

-- the ends of a side lie within those of another
abbrev pub covers : Ends → Ends → Bool
covers f e = int_le f.lo e.lo && int_le e.hi f.hi

-- every number from the ends of a side lies between those of the other
abbrev pub Among : Ends → Ends → Type 0
Among e f = (x : ℤ) → e.lo ≤ℤ x → x ≤ℤ e.hi → (f.lo ≤ℤ x) × (x ≤ℤ f.hi)

-- the box has the other's knobs, and each of its sides lies within the other's
unfoldable pub nested : List Ends → List Ends → Bool
nested [] [] = true
nested [] (f ∷ other) = false
nested (e ∷ box) [] = false
nested (e ∷ box) (f ∷ other) = covers f e && nested box other

-- every setting of the box is one of the other's
abbrev pub Part : List Ends → List Ends → Type 0
Part box other = (setting : List ℤ) → In box setting → In other setting

-- there are n things with the property P: they can be numbered from 0 to n - 1, each once
pub record Numbered {A : Type 0} (n : ℕ) (P : A → Type 0) : Type 0 where
  pub at : ℕ → A
  pub only : (i : ℕ) → i < n → P (at i)
  pub each : (x : A) → P x → (i : ℕ) × (i < n) × (at i ≡ x)
  pub once : (i j : ℕ) → i < n → j < n → at i ≡ at j → i ≡ j

-- how many numbers two ends in order have between them, themselves included
abbrev pub width : Ends → ℕ
width e = unsigned_abs (e.hi -ℤ e.lo) + 1

-- the product of the widths of a box's sides
abbrev pub count : List Ends → ℕ
count [] = 1
count (e ∷ box) = width e * count box
