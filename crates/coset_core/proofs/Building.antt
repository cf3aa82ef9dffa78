-- A header with one more pair or counter signature.
use Rattle.std.proofs.Common.{◌≡◌, List, [], ◌∷◌, ◌++◌, map, refl, ap, sym, ◌∙◌}
use Rattle.std.proofs.lemmas.List.{map_push}
use Rattle.std.specs.Prelude.{Vec}
use Rattle.std.specs.Global.{Global}
use Rattle.coset_value.specs.Item.{Item}
use Rattle.coset_value.specs.View.{value_item}
use Rattle.coset_value.specs.declared.value.Value.{Value}
use Rattle.coset_label.specs.LabelData.{LabelView}
use Rattle.coset_label.specs.Views.{entry_view, label_view}
use Rattle.coset_label.specs.declared.label.Label.{Label}
use Rattle.coset_core.specs.Built.{and_last, push_counter_signature, push_countersignature_v2, push_pair}
use Rattle.coset_core.specs.FieldViews.{fields_level}
use Rattle.coset_core.specs.Headers.{HeaderView, Signatures, header_of, SignatureView, and_signatures, signatures_of}
use Rattle.coset_core.specs.ViewLaws.{HeaderLevel, header-made, header-opened}
use Rattle.coset_core.specs.Views.{countersignature_view, header_view, signature_view}
use Rattle.coset_core.specs.declared.countersignature.CoseCountersignature.{CoseCountersignature}
use Rattle.coset_core.specs.declared.header.Header.{Header, out-Header, roll-Header}
use Rattle.coset_core.specs.declared.signature.CoseSignature.{CoseSignature}

signatures-pushed : (ss : List SignatureView) (s : SignatureView) → signatures_of (ss ++ s ∷ []) ≡ and_last s (signatures_of ss)
signatures-pushed [] s = refl
signatures-pushed (x ∷ ss) s = ap (and_signatures x) (signatures-pushed ss s)

-- The view of a header with other counter signatures, otherwise unchanged. `with_second` replaces those of version 2.
abbrev with_first : (h : Header) (ss : Signatures) → HeaderView
with_first h ss = header_of (fields_level (out-Header h)) ss (signatures_of (map countersignature_view (out-Header h).countersignatures_v2.items))

abbrev with_second : (h : Header) (ts : Signatures) → HeaderView
with_second h ts = header_of (fields_level (out-Header h)) (signatures_of (map signature_view (out-Header h).counter_signatures.items)) ts

pub counter_signature-added :
    (h : Header) (x : HeaderLevel) (s : CoseSignature) → fields_level x ≡ fields_level (out-Header h)
    → x.counter_signatures.items ≡ (out-Header h).counter_signatures.items ++ s ∷ []
    → x.countersignatures_v2.items ≡ (out-Header h).countersignatures_v2.items
    → header_view (roll-Header x) ≡ push_counter_signature (signature_view s) (header_view h)
counter_signature-added h x s fields pushed others =
    let old : List CoseSignature = (out-Header h).counter_signatures.items in
    header-made x
    ∙ (λ i. header_of (fields i) (signatures_of (map signature_view (pushed i))) (signatures_of (map countersignature_view (others i))))
    ∙ ap (λ ss. with_first h (signatures_of ss)) (map_push signature_view old s)
    ∙ ap (with_first h) (signatures-pushed (map signature_view old) (signature_view s))
    ∙ sym (ap (push_counter_signature (signature_view s)) (header-opened h))

pub countersignature-added :
    (h : Header) (x : HeaderLevel) (s : CoseCountersignature) → fields_level x ≡ fields_level (out-Header h)
    → x.counter_signatures.items ≡ (out-Header h).counter_signatures.items
    → x.countersignatures_v2.items ≡ (out-Header h).countersignatures_v2.items ++ s ∷ []
    → header_view (roll-Header x) ≡ push_countersignature_v2 (countersignature_view s) (header_view h)
countersignature-added h x s fields others pushed =
    let old : List CoseCountersignature = (out-Header h).countersignatures_v2.items in
    header-made x
    ∙ (λ i. header_of (fields i) (signatures_of (map signature_view (others i))) (signatures_of (map countersignature_view (pushed i))))
    ∙ ap (λ ts. with_second h (signatures_of ts)) (map_push countersignature_view old s)
    ∙ ap (with_second h) (signatures-pushed (map countersignature_view old) (countersignature_view s))
    ∙ sym (ap (push_countersignature_v2 (countersignature_view s)) (header-opened h))

-- The view of a header with these pairs in its rest, otherwise unchanged.
abbrev with_rest : (h : Header) (es : List (LabelView × Item)) → HeaderView
with_rest h es =
    header_of (record (fields_level (out-Header h)) { rest = es }) (signatures_of (map signature_view (out-Header h).counter_signatures.items))
    (signatures_of (map countersignature_view (out-Header h).countersignatures_v2.items))

pub pair-added :
    (h : Header) (rest : Vec (Label × Value) Global) (l : Label) (v : Value) → rest.items ≡ (out-Header h).rest.items ++ (l, v) ∷ []
    → header_view (roll-Header (record (out-Header h) { rest = rest })) ≡ push_pair (label_view l) (value_item v) (header_view h)
pair-added h rest l v pushed =
    let old : List (Label × Value) = (out-Header h).rest.items in
    header-made (record (out-Header h) { rest = rest })
    ∙ ap (λ es. with_rest h (map entry_view es)) pushed
    ∙ ap (with_rest h) (map_push entry_view old (l, v))
    ∙ sym (ap (push_pair (label_view l) (value_item v)) (header-opened h))
