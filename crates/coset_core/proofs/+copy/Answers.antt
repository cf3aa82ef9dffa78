use Rattle.std.proofs.Common.{map, ap, ◌∙◌, arith, rules}
use Rattle.coset_codec.proofs.InPlace.{one_more_copied}
use Rattle.coset_core.proofs.Signatures.{header_copied}
use Rattle.coset_codec.proofs.EncodingMaps.{taken}
use Rattle.coset_core.specs.Views.{countersignature_view, signature_view}
use Rattle.coset_core.specs.FieldViews.{fields_level}
use Rattle.coset_core.specs.ViewLaws.{HeaderLevel}
use Rattle.coset_core.specs.declared.header.Header.{out-roll-Header}
use Rattle.coset_core.proofs.+copy.Goals as goal

pub header::copy_header-returns : goal.header::copy_header-returns
header::copy_header-returns t c =
    let first = rw c.deref.ensures.value at c.in_ok-copy_signatures.ensures in
    let second = rw c.deref-2.ensures.value at c.copy_countersignatures.ensures in
    header_copied _ c.args.header.now c.copy_countersignatures.result (ap fields_level (out-roll-Header _) ∙ c.in_ok-copy_fields.ensures.copy)
    (ap (λ (x : HeaderLevel). map signature_view x.counter_signatures.items) (out-roll-Header _) ∙ first) second

pub signature::copy_signatures-loop-signature-preserved : goal.signature::copy_signatures-loop-signature-preserved
signature::copy_signatures-loop-signature-preserved t c =
    let gets = c.in_ok-push_empty.ensures in
    one_more_copied signature_view c.loop-signature.copies.items c.push_empty.new.all.items c.args.all.now c.loop-signature.signature-index c.len-last.result
    gets.0 _ c.copy_signature.new.copy c.loop-signature.invariant (search rules) gets.1
    (taken signature_view c.args.all.now c.loop-signature.signature-index c.signature-item.result
    (omega arith) c.signature-item.is) c.in_ok-copy_signature.ensures

pub countersignature::copy_countersignatures-loop-signature-preserved : goal.countersignature::copy_countersignatures-loop-signature-preserved
countersignature::copy_countersignatures-loop-signature-preserved t c =
    let gets = c.in_ok-push_empty.ensures in
    one_more_copied countersignature_view c.loop-signature.copies.items c.push_empty.new.all.items c.args.all.now c.loop-signature.signature-index
    c.len-last.result gets.0 _ c.copy_countersignature.new.copy c.loop-signature.invariant (search rules) gets.1
    (taken countersignature_view c.args.all.now c.loop-signature.signature-index c.signature-item.result
    (omega arith) c.signature-item.is) c.in_ok-copy_countersignature.ensures
