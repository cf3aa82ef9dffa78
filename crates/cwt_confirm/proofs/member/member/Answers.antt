use Rattle.std.proofs.Common.{◌∙◌, ap, option_map, rules, sym, tests}
use Rattle.std.proofs.lemmas.Iterator.{YieldsList-from_slice}
use Rattle.std.proofs.lemmas.Iterator.Search.{find_from_yields_List}
use Rattle.coset.specs.View.{value_item}
use Rattle.cwt_confirm.specs.Members.{is_number}
use Rattle.cwt_confirm.proofs.MapMembers.{member-find}
use Rattle.cwt_confirm.proofs.member.member.Goals as goal

pub returns-in-Some : goal.returns-in-Some
returns-in-Some c =
    let n = c.args.label in
    let pairs = c.args.pairs.now in
    let found = find_from_yields_List (λ p. is_number n (value_item p.0)) _ _ _ c.find.ensures.ran (YieldsList-from_slice pairs cc)
    (λ x b q k. search (rules, tests)) in
    ap (option_map (λ p. value_item p.1)) (rw c.in-Some.is at found) ∙ sym (member-find n pairs)

pub returns-in-None : goal.returns-in-None
returns-in-None c =
    let n = c.args.label in
    let pairs = c.args.pairs.now in
    let found = find_from_yields_List (λ p. is_number n (value_item p.0)) _ _ _ c.find.ensures.ran (YieldsList-from_slice pairs cc)
    (λ x b q k. search (rules, tests)) in
    ap (option_map (λ p. value_item p.1)) (rw c.in-None.is at found) ∙ sym (member-find n pairs)
