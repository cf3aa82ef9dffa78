use Rattle.std.proofs.Common.{◌∙◌, arith, sym}
use Rattle.tool_spelled.proofs.Base64Steps.{digits_to_end, one_break, one_digit}
use Rattle.tool_spelled.proofs.base64.numbers.Goals as goal

pub loop-digit-preserved-in_ok-push-in-Some-digit_number : goal.loop-digit-preserved-in_ok-push-in-Some-digit_number
loop-digit-preserved-in_ok-push-in-Some-digit_number c =
    let less = c.in-Some.ensures.cases.1 in
    let within = c.loop-digit.invariant.1 in (
      one_digit c.args.digits.now c.loop-digit.left.now c.in-Some.rest.now c.loop-digit.numbers.items c.push.new.self.items c.in-Some.digit.now
          c.in-Some-digit_number.number c.in-Some.ensures.cases.0 (sym c.digit_number.ensures ∙ c.in-Some-digit_number.is)
          c.in_ok-push-in-Some-digit_number.ensures.items c.loop-digit.invariant.0,
      omega (arith, less, within),
    )

pub loop-digit-preserved : goal.loop-digit-preserved
loop-digit-preserved c =
    let less = c.in-Some.ensures.cases.1 in
    let within = c.loop-digit.invariant.1 in (
      one_break c.args.digits.now c.loop-digit.left.now c.in-Some.rest.now c.loop-digit.numbers.items c.in-Some.digit.now c.in-Some.ensures.cases.0
          (sym c.is_break.ensures ∙ c.if-not-is_break.false) c.loop-digit.invariant.0,
      omega (arith, less, within),
    )

pub returns-clause-spelled : goal.returns-clause-spelled
returns-clause-spelled c =
    digits_to_end c.args.digits.now c.loop-digit.left.now c.loop-digit.numbers.items c.in_default.ensures.cases c.loop-digit.invariant.0
