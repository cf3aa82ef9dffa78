use Rattle.std.proofs.Common.{◌∙◌, rules, sym, tests}
use Rattle.std.proofs.lemmas.Iterator.{YieldsList-from_slice}
use Rattle.std.proofs.lemmas.Iterator.Search.{any_from_yields_List}
use Rattle.coset.specs.Claims.{entry_view, same_label}
use Rattle.coset.specs.LabelData.{assigned}
use Rattle.coset_iana.specs.CwtClaimName as claim_names
use Rattle.cwt_verify.proofs.Opened.{any-map}
use Rattle.cwt_verify.proofs.claims.has_registered.Goals as goal

pub returns : goal.returns
returns c =
    let name = assigned (claim_names.number c.args.name) in
    let found = any_from_yields_List (λ e. same_label (entry_view e).0 name) _ _ _ c.any.ensures.ran (YieldsList-from_slice c.args.claims.now cc)
    (λ x b q h. search (rules, tests)) in
    found ∙ sym (any-map (λ e. same_label e.0 name) entry_view c.args.claims.now)
