-- The operations' codes in a record.
use Rattle.std.specs.Prelude.{◌≡◌, ℕ, ◌<◌, Result, MatchResult}
use Rattle.records.specs.declared.operation.Operation.{Operation}
use Rattle.records.specs.declared.operation.Operation.TheVariants.{Const, Knob, Add, Sub, Mul, Sqr, Min, Shr}
use Rattle.records.specs.declared.operation.UnknownOperation.{UnknownOperation}

-- each operation's code
abbrev pub code_of : Operation → ℕ
code_of Const = 0
code_of Knob = 1
code_of Add = 2
code_of Sub = 3
code_of Mul = 4
code_of Sqr = 5
code_of Min = 6
code_of Shr = 7

-- the operation with this code, or that no operation has it: the codes end at 7
abbrev pub Decodes : ℕ → Result Operation UnknownOperation → Type 0
Decodes code r = MatchResult r (λ o. code_of o ≡ code) (λ e. (e.0 ≡ code) × (7 < code))
