-- How a job record is written, and the laws that tie writing to reading.
use Rattle.std.specs.Prelude.{◌≡◌, ℕ, List, ◌∷◌, ◌++◌, length, Ok, Err, Result}
use Rattle.std.specs.Int.{w32}
use Rattle.std.proofs.Common.{of_z}
use Rattle.std.specs.List.{flat_map}
use Rattle.boxes.specs.Boxes.{Ends}
use Rattle.records.specs.declared.reason.Refusal.{Refusal}
use Rattle.records.specs.declared.target.Target.{Target}
use Rattle.records.specs.declared.instruction.Instruction.{Instruction}
use Rattle.records.specs.declared.instruction.Instruction.TheVariants.{Const, Knob, Add, Sub, Mul, Sqr, Min, Shr}
use Rattle.records.specs.Numbers.{bytes16, bytes32, signed16, signed32}
use Rattle.records.specs.Rules.{Content}

-- the bytes of a side: its low end, its high end
abbrev pub encode_side : Ends → List ℕ
encode_side x = signed16 x.lo ++ signed16 x.hi

-- the bytes of an instruction: its code, its fields a and b, the four bytes of its field c
abbrev pub row : ℕ → ℕ → ℕ → ℕ → List ℕ
row code a b c = code ∷ a ∷ b ∷ bytes32 c

-- the bytes of each instruction; a field without use is 0
abbrev pub encode_instruction : Instruction → List ℕ
encode_instruction (Const c) = row 0 0 0 (of_z w32 c)
encode_instruction (Knob a) = row 1 a 0 0
encode_instruction (Add a b) = row 2 a b 0
encode_instruction (Sub a b) = row 3 a b 0
encode_instruction (Mul a b) = row 4 a b 0
encode_instruction (Sqr a) = row 5 a 0 0
encode_instruction (Min a b) = row 6 a b 0
encode_instruction (Shr a b) = row 7 a b 0

-- the bytes of a target: its register, its low end, its high end
abbrev pub encode_target : Target → List ℕ
encode_target x = x.register ∷ (signed32 x.low ++ signed32 x.high)

-- a table behind its count
abbrev pub table : {A : Type 0} → (A → List ℕ) → List A → List ℕ
table f xs = length xs ∷ flat_map f xs

-- all that follows the sides: the instructions, then the targets
abbrev pub tables : Content → List ℕ
tables c = table encode_instruction c.program ++ table encode_target c.targets

-- all that follows the length field: the version, the knob count, the limit, the sides and the tables
abbrev pub body : Content → List ℕ
body c = 1 ∷ length c.sides ∷ (bytes16 c.limit ++ (flat_map encode_side c.sides ++ tables c))

-- the record that says this: the length of what follows, and that
abbrev pub encode : Content → List ℕ
encode c = bytes32 (length (body c)) ++ body c

-- the byte string is the record of this content, which keeps the rules
pub record RecordOf (Rules : Content → Type 0) (c : Content) (s : List ℕ) : Type 0 where
  pub written : encode c ≡ s
  pub kept : Rules c

-- an answer is exact about a byte string: where something was read, it is the record of that and of nothing else; what is refused is the record of nothing
abbrev pub Exact : {A : Type 0} → (Content → Type 0) → List ℕ → (A → Content) → Result A Refusal → Type 0
Exact Rules s view (Ok x) = RecordOf Rules (view x) s × ((c : Content) → RecordOf Rules c s → c ≡ view x)
Exact Rules s view (Err d) = (c : Content) → RecordOf Rules c s → ⊥
