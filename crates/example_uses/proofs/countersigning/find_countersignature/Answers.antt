use Rattle.std.proofs.Common.{◌∙◌, ap, sym, option_map, rules, tests}
use Rattle.std.proofs.lemmas.Iterator.{YieldsList-from_slice}
use Rattle.std.proofs.lemmas.Iterator.Search.{find_from_yields_List}
use Rattle.coset_core.specs.Views.{countersignature_view}
use Rattle.example_uses.specs.Signers.{is_by}
use Rattle.example_uses.proofs.Found.{find-map, view_lent}
use Rattle.example_uses.proofs.countersigning.find_countersignature.Goals as goal

pub returns : goal.returns
returns c =
    let test = is_by c.args.key_id.now in
    let found = find_from_yields_List (λ s. test (countersignature_view s)) _ _ _ c.find.ensures.ran (YieldsList-from_slice c.args.all.now cc)
    (λ x b q k. search (rules, tests)) in
    view_lent countersignature_view c.find.result ∙ (ap (option_map countersignature_view) found ∙ sym (find-map countersignature_view test c.args.all.now))
