use Rattle.std.proofs.Common.{◌≡◌, option_map}
use Rattle.coset.specs.Errors.{UnlessMemory}
use Rattle.coset.specs.Item.{Pairs}
use Rattle.coset.specs.View.{value_item}
use Rattle.ffi_query.proofs.EachKind.{refuses}
use Rattle.ffi_make.specs.Given.{pairs_view}
use Rattle.ffi_make.specs.PairsMade.{ArePairs, SomePairFaults, with_pairs}
use Rattle.ffi_make.proofs.Putting.{fault_there, more_put}
use Rattle.ffi_make.proofs.pairs.with_all.Goals as goal

pub returns-in_err-made : goal.returns-in_err-made
returns-in_err-made c =
    let xs = pairs_view c.args.pairs.now in
    let e = c.in_err-made.field-0.0 in
    refuses (λ o. (qs : Pairs) × ArePairs xs qs × (option_map value_item o ≡ with_pairs qs (value_item c.args.map)))
    (λ f. UnlessMemory f (SomePairFaults xs)) e c.from_residual.result c.from_residual.ensures.1
    (fault_there c.args.pairs.now c.loop-pair.pair-index _ e c.loop-pair-test.true c.in_err-made.ensures)

pub loop-pair-preserved : goal.loop-pair-preserved
loop-pair-preserved c =
    more_put c.args.pairs.now c.loop-pair.pair-index _ (value_item c.args.map) (option_map value_item c.loop-pair.made)
    (option_map value_item c.in_ok-made.made) c.loop-pair-test.true c.loop-pair.invariant c.in_ok-made.ensures
