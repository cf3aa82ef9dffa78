use Rattle.std.proofs.Common.{not, sym, ap, ◌∙◌, rules}
use Rattle.std.proofs.lemmas.Iterator.{YieldsList-from_slice}
use Rattle.std.proofs.lemmas.Iterator.Search.{any_from_yields_List}
use Rattle.coset_codec.proofs.Distinct.{are_distinct_more}
use Rattle.coset_codec.proofs.repeats.has_repeats_pairwise.Goals as goal

pub returns-then-any : goal.returns-then-any
returns-then-any g c =
    let more = are_distinct_more g.K.PartialEq.eq c.loop-left.left.now c.index-left-0.result c.any.result c.in-len1-up.len_at_least
    (any_from_yields_List _ _ _ _ c.any.ensures.ran (YieldsList-from_slice _ c.iter.ensures.rest) (λ x b q k. search rules)) c.if-any.true in
    ap not (sym (c.loop-left.invariant ∙ more))

pub loop-left-preserved : goal.loop-left-preserved
loop-left-preserved g c =
    let more = are_distinct_more g.K.PartialEq.eq c.loop-left.left.now c.index-left-0.result c.any.result c.in-len1-up.len_at_least
    (any_from_yields_List _ _ _ _ c.any.ensures.ran (YieldsList-from_slice _ c.iter.ensures.rest) (λ x b q k. search rules)) c.if-any.false in
    c.loop-left.invariant ∙ more
