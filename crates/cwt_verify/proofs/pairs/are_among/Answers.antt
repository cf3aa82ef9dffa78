use Rattle.std.proofs.Common.{◌∙◌, rules, sym, tests}
use Rattle.std.proofs.lemmas.Iterator.{YieldsList-from_slice}
use Rattle.std.proofs.lemmas.Iterator.Search.{all_from_yields_List}
use Rattle.coset.specs.View.{value_item, value_pairs}
use Rattle.cwt_verify.specs.HeaderClaims.{has_pair}
use Rattle.cwt_verify.proofs.PairTests.{all_pairs-of}
use Rattle.cwt_verify.proofs.Among.{subset_tells, unique-shortest}
use Rattle.cwt_verify.proofs.pairs.are_among.Goals as goal

pub returns-then-some-le-MAX_ONE_BY_ONE-clause-answer : goal.returns-then-some-le-MAX_ONE_BY_ONE-clause-answer
returns-then-some-le-MAX_ONE_BY_ONE-clause-answer c =
    let ps = value_pairs c.args.pairs.now in
    let found = all_from_yields_List (λ p. has_pair ps (value_item p.0) (value_item p.1)) _ _ _ c.all.ensures.ran
    (YieldsList-from_slice c.args.some.now cc) (λ x b q k. search (rules, tests)) in
    found ∙ sym (all_pairs-of (has_pair ps) c.args.some.now)

pub returns-clause-answer : goal.returns-clause-answer
returns-clause-answer c =
    subset_tells c.shortest_is_encoding.ensures c.one_item.ensures (unique-shortest c.one_shortest.ensures c.shortest_is_in_range.ensures)
    c.in_ok-wanted.wanted c.in_ok-known.known
    c.args.some.now c.args.pairs.now c.is_subset.result c.in_ok-wanted.ensures.encoded c.in_ok-known.ensures.encoded c.is_subset.ensures
