use Rattle.std.proofs.Common.{◌≡◌, List, length, map, Bool}
use Rattle.std.specs.Iterator.Adapters.{zip_first, zip_second}
use Rattle.std.specs.Slice.Iter.{iter_rest}
use Rattle.coset_core.specs.Headers.{signatures_of}
use Rattle.coset_core.specs.Same.{signatures_eq}
use Rattle.coset_core.specs.Views.{countersignature_view, signature_view}
use Rattle.coset_core.specs.declared.countersignature.CoseCountersignature.{CoseCountersignature}
use Rattle.coset_core.specs.declared.signature.CoseSignature.{CoseSignature}
use Rattle.coset_core.proofs.+same.Given as goal

abbrev same : List CoseSignature → List CoseSignature → Bool
same ss ts = signatures_eq (signatures_of (map signature_view ss)) (signatures_of (map signature_view ts))

-- The remaining parts of both lists have the same length, and are equal exactly when the whole lists are.
abbrev pub invariant-signature::same_signatures-loop-a : goal.invariant-signature::same_signatures-loop-a
invariant-signature::same_signatures-loop-a l =
    let ss = iter_rest (zip_first l.a-iterator) in
    let ts = iter_rest (zip_second l.a-iterator) in
    (length ss ≡ length ts) × (same ss ts ≡ same l.all l.others)

abbrev same_v2 : List CoseCountersignature → List CoseCountersignature → Bool
same_v2 ss ts = signatures_eq (signatures_of (map countersignature_view ss)) (signatures_of (map countersignature_view ts))

abbrev pub invariant-countersignature::same_countersignatures-loop-a : goal.invariant-countersignature::same_countersignatures-loop-a
invariant-countersignature::same_countersignatures-loop-a l =
    let ss = iter_rest (zip_first l.a-iterator) in
    let ts = iter_rest (zip_second l.a-iterator) in
    (length ss ≡ length ts) × (same_v2 ss ts ≡ same_v2 l.all l.others)
