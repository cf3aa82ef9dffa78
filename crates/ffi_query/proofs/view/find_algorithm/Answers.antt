use Rattle.coset.specs.Pulls.{pull_item}
use Rattle.coset.specs.View.{value_item}
use Rattle.std.proofs.Common.{subst}
use Rattle.ffi_query.specs.declared.label.Map.TheVariants as of
use Rattle.ffi_query.specs.Results.{Finds}
use Rattle.ffi_query.specs.Labels.{IsUnder}
use Rattle.ffi_query.specs.View.{alg_label}
use Rattle.ffi_query.proofs.Viewed.{algorithm_found}
use Rattle.ffi_query.proofs.view.find_algorithm.Goals as goal

pub returns-in-Some-clause-algorithm : goal.returns-in-Some-clause-algorithm
returns-in-Some-clause-algorithm c =
    let k = c.args.kind in
    let v = pull_item c.args.item in
    algorithm_found k v (value_item c.in-Some.value) c.algorithm_of.result
    (subst (Finds value_item (IsUnder k of.Protected alg_label v)) c.in-Some.is c.in_ok-value.ensures.value) c.algorithm_of.ensures
