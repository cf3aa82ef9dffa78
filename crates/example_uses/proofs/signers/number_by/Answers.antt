use Rattle.std.proofs.Common.{◌∙◌, sym, rules, tests}
use Rattle.std.proofs.lemmas.Iterator.{YieldsList-from_slice}
use Rattle.std.proofs.lemmas.Iterator.Adapters.{position_from-zero}
use Rattle.std.proofs.lemmas.Iterator.Search.{position_from_yields_List}
use Rattle.coset_core.specs.Views.{signature_view}
use Rattle.example_uses.specs.Signers.{is_by}
use Rattle.example_uses.proofs.Signing.{position-map}
use Rattle.example_uses.proofs.signers.number_by.Goals as goal

pub returns : goal.returns
returns c =
    let test = is_by c.args.key_id.now in
    let found = position_from_yields_List (λ s. test (signature_view s)) _ _ _ c.position.ensures.ran (YieldsList-from_slice c.args.signatures.now cc)
    (λ x b q k. search (rules, tests)) in
    found ∙ (position_from-zero (λ s. test (signature_view s)) c.args.signatures.now ∙ sym (position-map signature_view test 0 c.args.signatures.now))
