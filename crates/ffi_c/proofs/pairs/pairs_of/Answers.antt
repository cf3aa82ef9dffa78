use Rattle.std.proofs.Common.{◌∙◌, ◌∷◌, [], Some, ap, sym}
use Rattle.std.proofs.lemmas.List.{map-append}
use Rattle.ffi_make.specs.Given.{pair_view, pairs_view}
use Rattle.ffi_c.proofs.Pairing.{pairs_more, pairs_none}
use Rattle.ffi_c.proofs.pairs.pairs_of.Goals as goal

pub returns-in-None-clause-pairs : goal.returns-in-None-clause-pairs
returns-in-None-clause-pairs c =
    sym (pairs_none c.args.bytes.now c.args.pairs.now c.loop-pair.pair-index _ c.loop-pair-test.true (sym c.in-None.ensures))

pub loop-pair-preserved : goal.loop-pair-preserved
loop-pair-preserved c =
    let so_far = c.loop-pair.found.items in
    let p = c.in-Some.pair in
    pairs_more c.args.bytes.now c.args.pairs.now c.loop-pair.pair-index _ (pairs_view so_far) (pair_view p) c.loop-pair-test.true c.loop-pair.invariant
    (sym c.in-Some.ensures)
    ∙ ap Some (sym (ap pairs_view c.in_ok-push-in-Some.ensures.items ∙ map-append pair_view so_far (p ∷ [])))
