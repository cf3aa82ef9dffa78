use Rattle.std.proofs.Common.{map, take}
use Rattle.coset_core.specs.Views.{countersignature_view, signature_view}
use Rattle.coset_core.specs.Written.{AppendsSignatures}
use Rattle.coset_core.proofs.+write.Given as goal

abbrev pub invariant-signature::write_signatures-loop-signature : goal.invariant-signature::write_signatures-loop-signature
invariant-signature::write_signatures-loop-signature l =
    AppendsSignatures l.initial.out.items l.out.items (map signature_view (take l.signature-index l.signatures))

abbrev pub invariant-countersignature::write_each_countersignature-loop-signature : goal.invariant-countersignature::write_each_countersignature-loop-signature
invariant-countersignature::write_each_countersignature-loop-signature l =
    AppendsSignatures l.initial.out.items l.out.items (map countersignature_view (take l.signature-index l.signatures))
