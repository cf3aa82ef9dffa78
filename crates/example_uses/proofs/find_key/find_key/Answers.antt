use Rattle.std.proofs.Common.{◌∙◌, ap, sym, nat_eq, option_map, rules, tests}
use Rattle.std.specs.Cmp.Lexicographic.{pointwise}
use Rattle.std.proofs.lemmas.Iterator.{YieldsList-from_slice}
use Rattle.std.proofs.lemmas.Iterator.Search.{find_from_yields_List}
use Rattle.coset_key.specs.Keys.{key_view}
use Rattle.example_uses.proofs.Found.{find-map, view_lent}
use Rattle.example_uses.proofs.find_key.find_key.Goals as goal

pub returns : goal.returns
returns c =
    let found = find_from_yields_List (λ k. pointwise nat_eq k.key_id.items c.args.key_id.now) _ _ _ c.find.ensures.ran
    (YieldsList-from_slice c.args.keys.now.0.items cc) (λ x b q k. search (rules, tests)) in
    view_lent key_view c.find.result ∙ (ap (option_map key_view) found
    ∙ sym (find-map key_view (λ k. pointwise nat_eq k.key_id c.args.key_id.now) c.args.keys.now.0.items))
