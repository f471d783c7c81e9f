use Rattle.std.proofs.Common.{◌^◌, min, rules}
use Rattle.std.proofs.lemmas.Nat.{pow_pos}
use Rattle.whole.proofs.Quotients.{shift_rounds}
use Rattle.whole.proofs.shift_down.Goals as goal

pub returns-clause-rounded : goal.returns-clause-rounded
returns-clause-rounded c = shift_rounds c.args.n (2 ^ min c.args.b 30) _ (pow_pos (min c.args.b 30)) (search rules)
