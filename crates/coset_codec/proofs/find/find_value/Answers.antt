use Rattle.std.proofs.Common.{◌∙◌, ap, option_map, rules, tests}
use Rattle.std.proofs.lemmas.Iterator.{YieldsList-from_slice}
use Rattle.std.proofs.lemmas.Iterator.Search.{find_from_yields_List}
use Rattle.coset_codec.proofs.Finding.{lookup_from_find}
use Rattle.coset_codec.proofs.find.find_value.Goals as goal

pub returns-in-Some : goal.returns-in-Some
returns-in-Some g c =
    let key = c.args.key.now in
    let pairs = c.args.pairs.now in
    let found = find_from_yields_List (λ e. g.K.PartialEq.eq key e.0) _ _ _ c.find.ensures.ran (YieldsList-from_slice pairs cc)
    (λ x b q k. search (rules, tests)) in
    ap (option_map (λ e. e.1)) (rw c.in-Some.is at found) ∙ lookup_from_find (g.K.PartialEq.eq key) pairs

pub returns-in-None : goal.returns-in-None
returns-in-None g c =
    let key = c.args.key.now in
    let pairs = c.args.pairs.now in
    let found = find_from_yields_List (λ e. g.K.PartialEq.eq key e.0) _ _ _ c.find.ensures.ran (YieldsList-from_slice pairs cc)
    (λ x b q k. search (rules, tests)) in
    ap (option_map (λ e. e.1)) (rw c.in-None.is at found) ∙ lookup_from_find (g.K.PartialEq.eq key) pairs
