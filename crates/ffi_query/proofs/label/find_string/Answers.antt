use Rattle.std.proofs.Common.{subst}
use Rattle.coset.specs.Pulls.{pull_item}
use Rattle.coset.specs.View.{value_item}
use Rattle.ffi_query.specs.Results.{Finds}
use Rattle.ffi_query.specs.Labels.{IsUnder, label_view}
use Rattle.ffi_query.proofs.Valued.{string_found}
use Rattle.ffi_query.proofs.label.find_string.Goals as goal

pub returns-in-Some-clause-found : goal.returns-in-Some-clause-found
returns-in-Some-clause-found c =
    let k = c.args.kind in
    let l = label_view c.args.label in
    let v = pull_item c.args.item in
    string_found (λ b. b.items) c.one_item.ensures k c.args.map l v (value_item c.in-Some.value) c.string_in.result
    (subst (Finds value_item (IsUnder k c.args.map l v)) c.in-Some.is c.in_ok-value.ensures.value) c.string_in.ensures
