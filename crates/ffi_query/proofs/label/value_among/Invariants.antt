use Rattle.std.proofs.Common.{◌≡◌}
use Rattle.coset.specs.Elements.{pairs_left}
use Rattle.coset_seen.specs.Named.{first_value}
use Rattle.ffi_query.specs.Labels.{is_label, label_view}
use Rattle.ffi_query.proofs.label.value_among.Given as goal

abbrev pub invariant-loop-key : goal.invariant-loop-key
invariant-loop-key l =
    let test = is_label (label_view l.label) in
    first_value test (pairs_left l.initial.key-iterator) ≡ first_value test (pairs_left l.key-iterator)
