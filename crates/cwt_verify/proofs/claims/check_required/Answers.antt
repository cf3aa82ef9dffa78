use Rattle.std.proofs.Common.{◌≡◌, ◌∙◌, None, Some, option_map, slice_index_or, ap, sym}
use Rattle.coset.specs.Known.{known_view}
use Rattle.coset_iana.specs.declared.claims.CwtClaimName.TheVariants.{GlobalPlatformComponents}
use Rattle.cwt_verify.specs.declared.error.TokenError.TheVariants.{Missing}
use Rattle.cwt_verify.proofs.Missing.{ends, first_missing, is_missing, stops}
use Rattle.cwt_verify.proofs.claims.check_required.Goals as goal

pub returns-then-not-has_claim : goal.returns-then-not-has_claim
returns-then-not-has_claim g c =
    let x = known_view c.args.known.now in
    let names = c.args.required.now in
    let i = c.loop-name.name-index in
    let found : first_missing x names ≡ Some (slice_index_or names i GlobalPlatformComponents) =
    c.loop-name.invariant ∙ stops x names i GlobalPlatformComponents c.loop-name-test.true (sym c.has_claim.ensures ∙ c.if-not-has_claim.true) in
    is_missing x names ∙ ap (option_map Missing) found

pub returns : goal.returns
returns g c =
    let x = known_view c.args.known.now in
    let names = c.args.required.now in
    let none : first_missing x names ≡ None = c.loop-name.invariant ∙ ends x names c.loop-name.name-index c.loop-name-test.false in
    is_missing x names ∙ ap (option_map Missing) none
