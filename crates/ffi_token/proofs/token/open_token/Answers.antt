use Rattle.std.proofs.Common.{◌≡◌, rules, subst, sym}
use Rattle.ffi_token.proofs.Meaning.{is_policy}
use Rattle.ffi_token.proofs.token.open_token.Goals as goal
use Rattle.ffi_token.specs.Rules.{rules_view}
use Rattle.ffi_token.specs.Tokens.{ReturnsWith}

pub returns : goal.returns
returns c =
    subst (λ o. ReturnsWith c.args.opened.now.bytes.now c.args.opened.now.layers.now o c.args.token.now c.args.now
    c.args.out.now c.answer.new.out c.answer.result)
    (sym (is_policy c.args.opened.now.bytes.now c.args.opened.now.layers.now (rules_view c.args.rules.now) (sym c.if-not-has_meaning.ensures)
    (sym c.if-not-have_texts.ensures)))
    (c.verify-verified.result, search rules, c.answer.ensures)
