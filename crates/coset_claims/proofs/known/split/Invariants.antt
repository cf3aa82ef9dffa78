use Rattle.std.proofs.Common.{map}
use Rattle.coset_value.specs.View.{value_pairs}
use Rattle.coset_cbor.specs.Elements.{items_left, pairs_left}
use Rattle.coset_label.specs.Views.{entry_view}
use Rattle.coset_claims.proofs.ClaimSplitting.{Blames, GoesOn}
use Rattle.coset_claims.proofs.known.split.Given as goal

abbrev pub invariant-loop-key : goal.invariant-loop-key
invariant-loop-key l =
    let all = pairs_left l.initial.key-iterator in
    let left = pairs_left l.key-iterator in
    GoesOn all (value_pairs l.named.items) (map items_left l.audiences.items) (map entry_view l.others.items) left × Blames all left
