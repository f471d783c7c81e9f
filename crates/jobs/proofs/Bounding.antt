-- Over its start box no register of a job leaves the bound.
use Rattle.std.proofs.Common.{◌<◌, length, get_or, arith}
use Rattle.std.proofs.lemmas.Int.{ints}
use Rattle.boxes.specs.Boxes.{good_side, nought}
use Rattle.boxes.proofs.Goods.{good_in}
use Rattle.ranges.specs.Plains.{plain_kind}
use Rattle.ranges.specs.Lawfulness.{plain_lawful}
use Rattle.records.specs.Rules.{Content, Keeps}
use Rattle.records.proofs.Runs.{every_at}
use Rattle.jobs.specs.Meaning.{RegistersBounded, register}
use Rattle.jobs.specs.Reading.{Sound}
use Rattle.jobs.specs.Registers.{no_row, registers}
use Rattle.jobs.proofs.Holding.{Sided, reg_holds, reg_valid}
use Rattle.jobs.proofs.Wiring.{wired}

-- a knob's sides are in order and within the bound
pub sided : (c : Content) → Keeps c → Sided c.sides
sided c g n h =
    let k = good_in (get_or c.sides n nought) (every_at (λ _ x. good_side x) 0 c.sides nought g.sided n h) in
    record { above = omega (arith, ints); order = k.order; below = omega (arith, ints) }

pub registers_bounded : (c : Content) → Sound c → RegistersBounded c
registers_bounded c g s inside k h =
    let w = wired (length c.sides) c.program g.fields.programmed in
    let o = sided c g.fields in
    let r = get_or (registers plain_kind c.program c.sides) k no_row in
    let b = g.bounded in
    let l : k < length (registers plain_kind c.program c.sides) = omega arith in
    let v = reg_valid plain_kind plain_lawful c.program c.sides o w k l in
    let e = plain_lawful.bounded r v in
    let m = plain_lawful.between r (register c.program s k) v (reg_holds plain_kind plain_lawful c.program c.sides o w s inside k l) in
    record { above = omega (arith, ints); below = omega (arith, ints) }
