-- A list with another entry in one place.
use Rattle.std.specs.Prelude.{ℕ, ◌<◌, List, length, slice_index_or, slice_set}
use Rattle.std.proofs.Common.{arith}
use Rattle.std.proofs.lemmas.Grind.{elements}

-- what is so of the new entry in its place, and of the others in theirs, is so at each place
pub at_each : {A : Type 0} (xs : List A) (m n : ℕ) (x d : A) (P : ℕ → A → Type 0) → m < length xs → P m x → P n (slice_index_or xs n d) → P n (slice_index_or (slice_set xs m x) n d)
at_each xs m n x d P l p q = grind (arith, elements)
