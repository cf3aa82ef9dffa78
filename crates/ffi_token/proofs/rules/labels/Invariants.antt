use Rattle.std.proofs.Common.{◌≡◌, map, take}
use Rattle.coset.specs.LabelViews.{registered_or_private_view}
use Rattle.ffi_token.specs.Rules.{named}
use Rattle.ffi_token.proofs.rules.labels.Given as goal

abbrev pub invariant-loop-number : goal.invariant-loop-number
invariant-loop-number g l =
    map (registered_or_private_view g.T.EnumI64.number) l.labels.items ≡ map (named g.T.EnumI64.value_of) (take l.number-index l.numbers)
