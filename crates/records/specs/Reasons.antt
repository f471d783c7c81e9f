-- The numbers of the reasons for a refusal, and its words.
use Rattle.std.specs.Prelude.{ℕ, List, ◌++◌, codes, decimal}
use Rattle.records.specs.declared.reason.Reason.{Reason}
use Rattle.records.specs.declared.reason.Refusal.{Refusal}
use Rattle.records.specs.declared.reason.Reason.TheVariants.{BadLength, BadVersion, BadShape, BadInstruction, BadField, TooLarge}

-- the number of each reason
abbrev pub number : Reason → ℕ
number BadLength = 1
number BadVersion = 2
number BadShape = 3
number BadInstruction = 4
number BadField = 5
number TooLarge = 6

-- the words of a refusal, with its number and its place
abbrev pub refused_text : ℕ → ℕ → List ℕ
refused_text n p = codes "refused " ++ (decimal n ++ (codes " " ++ decimal p))

-- what is said of a refusal
abbrev pub refused : Refusal → List ℕ
refused d = refused_text (number d.reason) d.place
