use Rattle.std.proofs.Common.{◌∙◌, sym, rules, tests}
use Rattle.std.proofs.lemmas.Iterator.{YieldsList-from_slice}
use Rattle.std.proofs.lemmas.Iterator.Search.{any_from_yields_List}
use Rattle.coset_recipient.specs.RecipientViews.{recipient_view}
use Rattle.example_uses.specs.SharedKey.{is_direct_to}
use Rattle.example_uses.proofs.Opened.{any-map}
use Rattle.example_uses.proofs.shared_key.are_direct.Goals as goal

pub returns : goal.returns
returns c =
    let test = is_direct_to c.args.key_id.now in
    let found = any_from_yields_List (λ r. test (recipient_view r)) _ _ _ c.any.ensures.ran (YieldsList-from_slice c.args.recipients.now cc)
    (λ x b q k. search (rules, tests)) in
    found ∙ sym (any-map test recipient_view c.args.recipients.now)
