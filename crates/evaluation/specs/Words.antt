-- What the targets say of a box, in a word.
use Rattle.std.specs.Prelude.{ℕ, List, codes}
use Rattle.evaluation.specs.declared.says.Says.{Says}
use Rattle.evaluation.specs.declared.says.Says.TheVariants.{Within, Apart, Open}

-- the word for what the targets say of a box
abbrev pub word : Says → List ℕ
word Within = codes "within"
word Apart = codes "apart"
word Open = codes "open"
