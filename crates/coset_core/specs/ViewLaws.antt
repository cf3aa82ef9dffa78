-- The views of headers, protected headers and signatures, from the views of their parts.
use Rattle.std.specs.Prelude.{◌≡◌, map, option_map}
use Rattle.coset_core.specs.Headers.{HeaderView, header_of, ProtectedView, SignatureView, signatures_of}
use Rattle.coset_core.specs.FieldViews.{fields_level}
use Rattle.coset_core.specs.Views.{countersignature_step, header_step, protected_step, signature_step, countersignature_view, header_view, protected_view}
use Rattle.coset_core.specs.Views.{signature_view}
use Rattle.coset_core.specs.declared.countersignature.CoseCountersignature.{CoseCountersignature, CoseCountersignature-F, out-CoseCountersignature}
use Rattle.coset_core.specs.declared.countersignature.CoseCountersignature.{fold_out-CoseCountersignature}
use Rattle.coset_core.specs.declared.header.Header.{Header, Header-F, out-Header, roll-Header, fold-roll-Header, fold_out-Header}
use Rattle.coset_core.specs.declared.protected.ProtectedHeader.{ProtectedHeader, ProtectedHeader-F, out-ProtectedHeader, roll-ProtectedHeader}
use Rattle.coset_core.specs.declared.protected.ProtectedHeader.{fold-roll-ProtectedHeader, fold_out-ProtectedHeader}
use Rattle.coset_core.specs.declared.signature.CoseSignature.{CoseSignature, CoseSignature-F, out-CoseSignature, roll-CoseSignature, fold-roll-CoseSignature}
use Rattle.coset_core.specs.declared.signature.CoseSignature.{fold_out-CoseSignature}

-- One unrolled level of each type.
abbrev pub HeaderLevel : Type 0
HeaderLevel = Header-F CoseCountersignature Header ProtectedHeader CoseSignature

abbrev pub ProtectedLevel : Type 0
ProtectedLevel = ProtectedHeader-F CoseCountersignature Header ProtectedHeader CoseSignature

abbrev pub SignatureLevel : Type 0
SignatureLevel = CoseSignature-F CoseCountersignature Header ProtectedHeader CoseSignature

abbrev pub CountersignatureLevel : Type 0
CountersignatureLevel = CoseCountersignature-F CoseCountersignature Header ProtectedHeader CoseSignature

-- The view of one level of each type.
abbrev pub header_level : HeaderLevel → HeaderView
header_level h = header_of (fields_level h) (signatures_of (map signature_view h.counter_signatures.items))
    (signatures_of (map countersignature_view h.countersignatures_v2.items))

abbrev pub protected_level : ProtectedLevel → ProtectedView
protected_level p = record { original = option_map (λ v. v.items) p.original_data; header = header_view p.header }

abbrev pub signature_level : SignatureLevel → SignatureView
signature_level s = record { protected = protected_view s.protected; unprotected = header_view s.unprotected; signature = s.signature.items }

abbrev pub countersignature_level : CountersignatureLevel → SignatureView
countersignature_level s = record { protected = protected_view s.protected; unprotected = header_view s.unprotected; signature = s.signature.items }

pub header-made : (x : HeaderLevel) → header_view (roll-Header x) ≡ header_level x
header-made = fold-roll-Header SignatureView HeaderView ProtectedView SignatureView countersignature_step header_step protected_step signature_step

pub header-opened : (h : Header) → header_view h ≡ header_level (out-Header h)
header-opened = fold_out-Header SignatureView HeaderView ProtectedView SignatureView countersignature_step header_step protected_step signature_step

pub protected-made : (x : ProtectedLevel) → protected_view (roll-ProtectedHeader x) ≡ protected_level x
protected-made = fold-roll-ProtectedHeader SignatureView HeaderView ProtectedView SignatureView countersignature_step header_step protected_step signature_step

pub protected-opened : (p : ProtectedHeader) → protected_view p ≡ protected_level (out-ProtectedHeader p)
protected-opened = fold_out-ProtectedHeader SignatureView HeaderView ProtectedView SignatureView countersignature_step header_step protected_step signature_step

pub signature-made : (x : SignatureLevel) → signature_view (roll-CoseSignature x) ≡ signature_level x
signature-made = fold-roll-CoseSignature SignatureView HeaderView ProtectedView SignatureView countersignature_step header_step protected_step signature_step

pub signature-opened : (s : CoseSignature) → signature_view s ≡ signature_level (out-CoseSignature s)
signature-opened = fold_out-CoseSignature SignatureView HeaderView ProtectedView SignatureView countersignature_step header_step protected_step signature_step

pub countersignature-opened : (s : CoseCountersignature) → countersignature_view s ≡ countersignature_level (out-CoseCountersignature s)
countersignature-opened = fold_out-CoseCountersignature SignatureView HeaderView ProtectedView SignatureView countersignature_step header_step protected_step
    signature_step
