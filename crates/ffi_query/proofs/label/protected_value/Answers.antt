use Rattle.std.proofs.Common.{◌≡◌, ◌∙◌, ℕ, Some, Vec, Global, ap, option_map, sym}
use Rattle.coset.specs.Pulls.{pull_item}
use Rattle.coset.specs.View.{value_item}
use Rattle.ffi_query.specs.Labels.{label_view}
use Rattle.ffi_query.specs.Places.{bytes_in}
use Rattle.ffi_query.proofs.Valued.{protected_as}
use Rattle.ffi_query.proofs.label.protected_value.Goals as goal

pub returns-in-Some-clause-value : goal.returns-in-Some-clause-value
returns-in-Some-clause-value c =
    let there : Some c.deref.result.now ≡ bytes_in 0 (pull_item c.args.item) =
    ap Some c.deref.ensures.value ∙ (ap (option_map (λ (b : Vec ℕ Global). b.items)) (sym c.in-Some.is) ∙ c.in_ok-bytes.ensures.bytes) in
    protected_as value_item (label_view c.args.label) _ c.deref.result.now c.value_within.result there c.value_within.ensures.value
