use Rattle.std.proofs.Common.{◌∙◌, ap, sym, option_map, rules, tests}
use Rattle.std.proofs.lemmas.Iterator.{YieldsList-from_slice}
use Rattle.std.proofs.lemmas.Iterator.Search.{find_from_yields_List}
use Rattle.coset_recipient.specs.RecipientViews.{recipient_view}
use Rattle.example_uses.specs.Recipients.{is_to}
use Rattle.example_uses.proofs.Found.{find-map, view_lent}
use Rattle.example_uses.proofs.recipients.find_recipient.Goals as goal

pub returns : goal.returns
returns c =
    let test = is_to c.args.key_id.now in
    let found = find_from_yields_List (λ r. test (recipient_view r)) _ _ _ c.find.ensures.ran (YieldsList-from_slice c.args.recipients.now cc)
    (λ x b q k. search (rules, tests)) in
    view_lent recipient_view c.find.result ∙ (ap (option_map recipient_view) found ∙ sym (find-map recipient_view test c.args.recipients.now))
