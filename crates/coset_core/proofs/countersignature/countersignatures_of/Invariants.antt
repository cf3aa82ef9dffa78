use Rattle.std.proofs.Common.{◌≡◌, ◌++◌, map}
use Rattle.std.specs.Vec.Iter.{into_iter_items}
use Rattle.coset_core.specs.Views.{countersignature_view, signature_view}
use Rattle.coset_core.proofs.countersignature.countersignatures_of.Given as goal

-- The signatures so far were moved.
abbrev pub invariant-loop-signed : goal.invariant-loop-signed
invariant-loop-signed l =
    (l.yielded ++ into_iter_items l.signed-iterator ≡ into_iter_items l.initial.signed-iterator)
    × (map countersignature_view l.all.items ≡ map signature_view l.yielded)
