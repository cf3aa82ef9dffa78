-- The views of a header's fields.
use Rattle.std.specs.Prelude.{List}
use Rattle.coset_core.specs.Fields.{FieldsView}
use Rattle.coset_core.specs.Views.{fields_step}
use Rattle.coset_core.specs.declared.countersignature.CoseCountersignature.{CoseCountersignature}
use Rattle.coset_core.specs.declared.header.Header.{Header, Header-F, out-Header}
use Rattle.coset_core.specs.declared.protected.ProtectedHeader.{ProtectedHeader}
use Rattle.coset_core.specs.declared.signature.CoseSignature.{CoseSignature}

-- The view of one level of a header, without its counter signatures.
abbrev pub fields_level : Header-F CoseCountersignature Header ProtectedHeader CoseSignature → FieldsView
fields_level = fields_step

-- The view of a header's fields, without its counter signatures.
abbrev pub fields_view : Header → FieldsView
fields_view h = fields_level (out-Header h)

abbrev pub counter_signature_list : Header → List CoseSignature
counter_signature_list h = (out-Header h).counter_signatures.items

abbrev pub countersignature_v2_list : Header → List CoseCountersignature
countersignature_v2_list h = (out-Header h).countersignatures_v2.items

-- A header's counter signatures of both versions.
abbrev pub signature_lists : Header → List CoseSignature × List CoseCountersignature
signature_lists h = (counter_signature_list h, countersignature_v2_list h)
