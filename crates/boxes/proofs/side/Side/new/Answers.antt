use Rattle.std.proofs.Common.{sym, arith}
use Rattle.std.proofs.lemmas.Int.{ints}
use Rattle.boxes.proofs.Goods.{side_is, side_none}
use Rattle.boxes.proofs.side.Side.new.Goals as goal

pub returns-then-low-lt-LOWEST : goal.returns-then-low-lt-LOWEST
returns-then-low-lt-LOWEST c = sym (side_none _ (λ g. grind (arith, ints)))

pub returns : goal.returns
returns c = side_is _ _ c.args.low c.args.high (omega (arith, ints)) (omega (arith, ints)) (record { above = omega (arith, ints); order = omega (arith, ints); below = omega (arith, ints) })
