use mir.Syntax.{w32, w64}
use mir.Val.{of_z, to_z}
use Rattle.std.proofs.Common.{◌≡◌, ◌∙◌, ℤ, Err, ap, refl, rules, subst, sym}
use Rattle.std.proofs.lemmas.Int.{to_z-of_z}
use Rattle.std.specs.Option.{option_and_then}
use Rattle.std.specs.Prelude.{option_map}
use Rattle.ffi_token.specs.Rules.{policy_in, rules_view}
use Rattle.ffi_token.specs.Tokens.{ReturnsToken}
use Rattle.ffi_token.specs.declared.refusal.Refusal.TheVariants.{Misuse}
use Rattle.ffi_c.specs.Tokens.{token_status}
use Rattle.ffi_c.proofs.token.coset_token_open.Goals as goal

pub returns-in-Some : goal.returns-in-Some
returns-in-Some c =
    let p = policy_in (rules_view c.in-Some.rules) in
    let b = c.args.input.now in
    let opened = c.args.opened.now in
    let r = c.open_token-answer.result in
    let old = c.args.out.now in
    let new = c.open_token-answer.new.out in
    let answers : ReturnsToken c.args.bytes.now opened p b c.args.now old new r =
    subst (λ (n : ℤ). ReturnsToken c.args.bytes.now opened p b n old new r) (to_z-of_z w64 c.args.now c.ranges.now) c.open_token-answer.ensures in
    let status : to_z w32 (of_z w32 c.reply_token.result) ≡ token_status r = search rules in
    let same = sym c.in-Some.is ∙ (c.within_layers.ensures ∙ (c.within-2.ensures ∙ c.within.ensures)) in (
      r,
      subst (λ o. ReturnsToken c.args.bytes.now opened (option_and_then policy_in o) b c.args.now old new r)
          (ap (option_map rules_view) same ∙ c.rules_of-rules.ensures) answers,
      status,
      c.reply_token.ensures.number,
      c.reply_token.ensures.view,
    )

pub returns-in-None : goal.returns-in-None
returns-in-None c =
    let old = c.args.out.now in
    let same = sym c.in-None.is ∙ (c.within_layers.ensures ∙ (c.within-2.ensures ∙ c.within.ensures)) in
    let status : to_z w32 (of_z w32 c.reply_token-in-None.result) ≡ token_status (Err Misuse) = search rules in (
      Err Misuse,
      subst (λ o. ReturnsToken c.args.bytes.now c.args.opened.now (option_and_then policy_in o) c.args.input.now c.args.now old old (Err Misuse))
          (ap (option_map rules_view) same ∙ c.rules_of-rules.ensures) (refl, refl),
      status,
      c.reply_token-in-None.ensures.number,
      c.reply_token-in-None.ensures.view,
    )
