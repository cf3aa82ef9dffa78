use Rattle.tool_spelled.proofs.Base64Steps.{without_both, without_sign, without_signs}
use Rattle.tool_spelled.proofs.base64.without_padding.Goals as goal

pub returns-in_default : goal.returns-in_default
returns-in_default c = without_signs c.args.text.now

pub returns-in-Some-before_sign : goal.returns-in-Some-before_sign
returns-in-Some-before_sign c = without_both c.args.text.now c.in-Some.rest.now c.in-Some-before_sign.digits.now c.in-Some.ensures c.in-Some-before_sign.ensures

pub returns-in-None : goal.returns-in-None
returns-in-None c = without_sign c.args.text.now c.in-Some.rest.now c.in-Some.ensures
