use Rattle.std.proofs.Common.{◌∙◌, ap, option_map, rules, sym, tests}
use Rattle.std.proofs.lemmas.Iterator.{YieldsList-from_slice}
use Rattle.std.proofs.lemmas.Iterator.Search.{find_from_yields_List}
use Rattle.coset_value.specs.View.{value_item}
use Rattle.example_uses.specs.Attestation.{is_text}
use Rattle.example_uses.proofs.Attested.{held-find}
use Rattle.example_uses.proofs.attestation.held_under.Goals as goal

pub returns-in-Some : goal.returns-in-Some
returns-in-Some c =
    let name = c.args.name.now in
    let pairs = c.args.pairs.now in
    let found = find_from_yields_List (λ p. is_text name (value_item p.0)) _ _ _ c.find.ensures.ran (YieldsList-from_slice pairs cc)
    (λ x b q k. search (rules, tests)) in
    ap (option_map (λ p. value_item p.1)) (rw c.in-Some.is at found) ∙ sym (held-find name pairs)

pub returns-in-None : goal.returns-in-None
returns-in-None c =
    let name = c.args.name.now in
    let pairs = c.args.pairs.now in
    let found = find_from_yields_List (λ p. is_text name (value_item p.0)) _ _ _ c.find.ensures.ran (YieldsList-from_slice pairs cc)
    (λ x b q k. search (rules, tests)) in
    ap (option_map (λ p. value_item p.1)) (rw c.in-None.is at found) ∙ sym (held-find name pairs)
