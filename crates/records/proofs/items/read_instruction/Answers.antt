-- The tests passed, so the fields keep the rules of the operation.
use Rattle.std.proofs.Common.{◌≡◌, ◌+◌, ◌≤◌, Ok, refl, sym, ap, ◌∙◌, arith, rules}
use Rattle.records.specs.declared.operation.Operation.{Operation}
use Rattle.records.specs.declared.operation.Operation.TheVariants.{Const, Knob, Add, Sub, Mul, Sqr, Min, Shr}
use Rattle.records.specs.Numbers.{byte, int32}
use Rattle.records.specs.Operations.{code_of}
use Rattle.records.specs.Entries.{decoded}
use Rattle.records.proofs.Given.{row_clean}
use Rattle.records.proofs.Goods.{Row}
use Rattle.records.proofs.items.read_instruction.Goals as goal

code_below : (o : Operation) → code_of o ≤ 7
code_below Const = omega arith
code_below Knob = omega arith
code_below Add = omega arith
code_below Sub = omega arith
code_below Mul = omega arith
code_below Sqr = omega arith
code_below Min = omega arith
code_below Shr = omega arith

pub returns : goal.returns
returns c =
    let s = c.args.bytes.now in
    let at = c.args.at in
    let o = c.in-Ok.operation in
    let kept : Row (code_of o) (byte s (at + 1)) (byte s (at + 2)) (int32 s (at + 3)) c.args.knobs c.args.k = record {
      known = code_below o;
      first_operand = search rules;
      second_operand = search rules;
      number = search rules;
    } in
    let clean = row_clean at (code_of o) _ _ _ c.args.knobs c.args.k (byte s at) _ _ _ (sym c.in-Ok.ensures) refl refl refl kept in
    let v : c.instruction.result ≡ decoded (code_of o) (byte s (at + 1)) (byte s (at + 2)) (int32 s (at + 3)) = search rules in
    rw clean.1 (ap Ok (v ∙ sym clean.0))
