-- The views of headers, protected headers and signatures.
use Rattle.std.specs.Prelude.{map, option_map}
use Rattle.coset_iana.specs.CoapContentFormat as content_formats
use Rattle.coset_iana.specs.HeaderParameter as parameters
use Rattle.coset_iana.specs.declared.content_formats.CoapContentFormat.{CoapContentFormat}
use Rattle.coset_iana.specs.declared.headers.HeaderParameter.{HeaderParameter}
use Rattle.coset_label.specs.LabelData.{LabelView, RegisteredLabelView}
use Rattle.coset_label.specs.Views.{algorithm_view, entry_view, registered_view, registered_or_private_view}
use Rattle.coset_label.specs.declared.registered.RegisteredLabel.{RegisteredLabel}
use Rattle.coset_label.specs.declared.registered.RegisteredLabelWithPrivate.{RegisteredLabelWithPrivate}
use Rattle.coset_core.specs.Fields.{FieldsView}
use Rattle.coset_core.specs.Headers.{HeaderView, header_of, ProtectedView, SignatureView, signatures_of}
use Rattle.coset_core.specs.declared.countersignature.CoseCountersignature.{CoseCountersignature, CoseCountersignature-F, fold-CoseCountersignature}
use Rattle.coset_core.specs.declared.header.Header.{Header, Header-F, fold-Header}
use Rattle.coset_core.specs.declared.protected.ProtectedHeader.{ProtectedHeader, ProtectedHeader-F, fold-ProtectedHeader}
use Rattle.coset_core.specs.declared.signature.CoseSignature.{CoseSignature, CoseSignature-F, fold-CoseSignature}

abbrev pub critical_view : RegisteredLabelWithPrivate HeaderParameter → RegisteredLabelView
critical_view = registered_or_private_view parameters.number

abbrev pub content_type_view : RegisteredLabel CoapContentFormat → LabelView
content_type_view = registered_view content_formats.number

-- The view of one level of a header, without its counter signatures.
abbrev pub fields_step : {C H P S : Type 0} → Header-F C H P S → FieldsView
fields_step h = record {
  alg = option_map algorithm_view h.alg;
  crit = map critical_view h.crit.items;
  content_type = option_map content_type_view h.content_type;
  key_id = h.key_id.items;
  iv = h.iv.items;
  partial_iv = h.partial_iv.items;
  countersignature0_v2 = option_map (λ b. b.items) h.countersignature0_v2;
  rest = map entry_view h.rest.items;
}

-- The view of one level of each type, if its parts are already replaced by their views.
abbrev pub header_step : Header-F SignatureView HeaderView ProtectedView SignatureView → HeaderView
header_step h = header_of (fields_step h) (signatures_of h.counter_signatures.items) (signatures_of h.countersignatures_v2.items)

abbrev pub protected_step : ProtectedHeader-F SignatureView HeaderView ProtectedView SignatureView → ProtectedView
protected_step p = record { original = option_map (λ v. v.items) p.original_data; header = p.header }

abbrev pub signature_step : CoseSignature-F SignatureView HeaderView ProtectedView SignatureView → SignatureView
signature_step s = record { protected = s.protected; unprotected = s.unprotected; signature = s.signature.items }

abbrev pub countersignature_step : CoseCountersignature-F SignatureView HeaderView ProtectedView SignatureView → SignatureView
countersignature_step s = record { protected = s.protected; unprotected = s.unprotected; signature = s.signature.items }

abbrev pub header_view : Header → HeaderView
header_view = fold-Header SignatureView HeaderView ProtectedView SignatureView countersignature_step header_step protected_step signature_step

abbrev pub protected_view : ProtectedHeader → ProtectedView
protected_view = fold-ProtectedHeader SignatureView HeaderView ProtectedView SignatureView countersignature_step header_step protected_step signature_step

abbrev pub signature_view : CoseSignature → SignatureView
signature_view = fold-CoseSignature SignatureView HeaderView ProtectedView SignatureView countersignature_step header_step protected_step signature_step

-- The view of a countersignature of version 2 has the same type as that of a signature.
abbrev pub countersignature_view : CoseCountersignature → SignatureView
countersignature_view = fold-CoseCountersignature SignatureView HeaderView ProtectedView SignatureView countersignature_step header_step protected_step
    signature_step
