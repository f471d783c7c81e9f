-- The numbers of a record: how they are read from its bytes, and how they are written.
use Rattle.std.specs.Prelude.{ℕ, ◌+◌, ◌*◌, ◌/◌, ◌%◌, ◌<◌, List, [], ◌∷◌, ℤ, slice_index}
use Rattle.std.specs.Int.{w16, w32}
use Rattle.std.proofs.Common.{to_z, of_z}

-- the byte at a place of a record
abbrev pub byte : List ℕ → ℕ → ℕ
byte s at = slice_index s at

-- the number in the two bytes at a place, the greater byte first
abbrev pub nat16 : List ℕ → ℕ → ℕ
nat16 s at = byte s at * 256 + byte s (at + 1)

-- the number in the four bytes at a place, the greatest byte first
abbrev pub nat32 : List ℕ → ℕ → ℕ
nat32 s at = byte s at * 16777216 + byte s (at + 1) * 65536 + byte s (at + 2) * 256 + byte s (at + 3)

-- the signed number in the two bytes at a place, in two's complement
abbrev pub int16 : List ℕ → ℕ → ℤ
int16 s at = to_z w16 (nat16 s at)

-- the signed number in the four bytes at a place, in two's complement
abbrev pub int32 : List ℕ → ℕ → ℤ
int32 s at = to_z w32 (nat32 s at)

-- the two bytes of a number, the greater first
abbrev pub bytes16 : ℕ → List ℕ
bytes16 n = n / 256 ∷ n % 256 ∷ []

-- the four bytes of a number, the greatest first
abbrev pub bytes32 : ℕ → List ℕ
bytes32 n = n / 16777216 ∷ n / 65536 % 256 ∷ n / 256 % 256 ∷ n % 256 ∷ []

-- the two bytes of a signed number, in two's complement
abbrev pub signed16 : ℤ → List ℕ
signed16 z = bytes16 (of_z w16 z)

-- the four bytes of a signed number, in two's complement
abbrev pub signed32 : ℤ → List ℕ
signed32 z = bytes32 (of_z w32 z)

-- each entry is a byte
abbrev pub Bytes : List ℕ → Type 0
Bytes s = (i : ℕ) → byte s i < 256
