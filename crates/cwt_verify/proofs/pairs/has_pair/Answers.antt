use Rattle.std.proofs.Common.{◌∙◌, ◌&&◌, rules, sym, tests}
use Rattle.std.proofs.lemmas.Iterator.{YieldsList-from_slice}
use Rattle.std.proofs.lemmas.Iterator.Search.{any_from_yields_List}
use Rattle.coset_value.specs.Same.{item_eq}
use Rattle.coset.specs.View.{value_item}
use Rattle.cwt_verify.proofs.PairTests.{any_pair-of}
use Rattle.cwt_verify.proofs.pairs.has_pair.Goals as goal

pub returns : goal.returns
returns c =
    let k = value_item c.args.pair.now.0 in
    let v = value_item c.args.pair.now.1 in
    let found = any_from_yields_List (λ p. item_eq (value_item p.0) k && item_eq (value_item p.1) v) _ _ _ c.any.ensures.ran
    (YieldsList-from_slice c.args.pairs.now cc) (λ x b q h. search (rules, tests)) in
    found ∙ sym (any_pair-of (λ l w. item_eq l k && item_eq w v) c.args.pairs.now)
