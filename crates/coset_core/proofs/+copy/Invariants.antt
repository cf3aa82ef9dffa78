use Rattle.std.proofs.Common.{◌≡◌, map, take}
use Rattle.coset_core.specs.Views.{countersignature_view, signature_view}
use Rattle.coset_core.proofs.+copy.Given as goal

abbrev pub invariant-signature::copy_signatures-loop-signature : goal.invariant-signature::copy_signatures-loop-signature
invariant-signature::copy_signatures-loop-signature l = map signature_view l.copies.items ≡ map signature_view (take l.signature-index l.all)

abbrev pub invariant-countersignature::copy_countersignatures-loop-signature : goal.invariant-countersignature::copy_countersignatures-loop-signature
invariant-countersignature::copy_countersignatures-loop-signature l =
    map countersignature_view l.copies.items ≡ map countersignature_view (take l.signature-index l.all)
