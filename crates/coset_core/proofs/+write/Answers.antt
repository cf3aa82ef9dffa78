use Rattle.std.proofs.Common.{◌≡◌, option_map, map, take, drop, ◌+◌, ◌++◌, ◌<◌, ◌^◌, None, refl, sym, ap, ◌∙◌, arith, rules, subst}
use Rattle.std.proofs.lemmas.List.{length-map}
use Rattle.coset_value.specs.Item.{bytes}
use Rattle.coset_iana.specs.declared.headers.HeaderParameter.TheVariants.{CounterSignature, CounterSignatureV2}
use Rattle.coset_cbor.specs.Least.{least_head, least_encoding}
use Rattle.coset_codec.specs.declared.error.CoseError.TheVariants.{OutOfMemory}
use Rattle.coset_codec.specs.Encoding.{AppendsItem, AppendsImage, Encodes}
use Rattle.coset_codec.specs.Shape.{bstr}
use Rattle.coset_codec.proofs.Encoding.{extends-on, extends-same}
use Rattle.coset_codec.proofs.EncodingMaps.{optional-view}
use Rattle.coset_core.specs.Headers.{header_image, protected_bytes, signatures_image, signatures_of, fields_in, counter_signatures_in, countersignatures_in}
use Rattle.coset_core.specs.ViewLaws.{countersignature_level, countersignature-opened, header_level, header-opened, signature_level, signature-opened}
use Rattle.coset_core.specs.ViewLaws.{protected-opened}
use Rattle.coset_core.specs.Views.{countersignature_view, header_view, protected_view, signature_view}
use Rattle.coset_core.specs.Written.{AppendsSignatures, signature_array, count_pairs}
use Rattle.coset_core.specs.declared.countersignature.CoseCountersignature.{out-CoseCountersignature}
use Rattle.coset_core.specs.declared.header.Header.{out-Header}
use Rattle.coset_core.specs.declared.signature.CoseSignature.{out-CoseSignature}
use Rattle.coset_core.proofs.Keeping.{protected_bytes-read, protected_bytes-fresh}
use Rattle.coset_codec.proofs.EncodingMaps.{taken, around}
use Rattle.coset_core.proofs.WritingHeaders.{field-view, passes, unencoded, string-put, signature-put, counter_signatures-put, map-put, unwritten-rest}
use Rattle.coset_core.proofs.WritingHeaders.{unwritten-counter_signatures, unwritten-countersignatures, signatures-push, signatures-none}
use Rattle.coset_core.proofs.WritingHeaders.{unwritten-protected, unwritten-unprotected, no_signatures-put, signatures-done, signatures-kept}
use Rattle.coset_core.proofs.PassedOn.{no_success, on_error, memory_encodes, memory_refuses}
use Rattle.coset_codec.proofs.Lists.{on_err}
use Rattle.coset_core.proofs.+write.Goals as goal

pub header::writing::write_counter_signatures-returns-clause-ok : goal.header::writing::write_counter_signatures-returns-clause-ok
header::writing::write_counter_signatures-returns-clause-ok t c =
    let ss = c.args.signatures.now in
    counter_signatures-put CounterSignature (map signature_view ss) _ _ _ _ _ (rw (length-map ss signature_view) (search rules))
    (sym (length-map ss signature_view)) (omega arith)
    c.in_ok-write_parameter.ensures.written c.in_ok-write_counter_signatures_head.ensures.one c.in_ok-write_counter_signatures_head.ensures.array
    c.in_ok-write_signatures.ensures.ok

pub header::writing::write_countersignatures-returns-clause-ok : goal.header::writing::write_countersignatures-returns-clause-ok
header::writing::write_countersignatures-returns-clause-ok t c =
    let ss = c.args.signatures.now in
    counter_signatures-put CounterSignatureV2 (map countersignature_view ss) _ _ _ _ _ (rw (length-map ss countersignature_view) (search rules))
    (sym (length-map ss countersignature_view)) (omega arith)
    c.in_ok-write_parameter.ensures.written c.in_ok-write_counter_signatures_head.ensures.one c.in_ok-write_counter_signatures_head.ensures.array
    c.in_ok-write_each_countersignature.ensures.ok

pub header::writing::write_header-returns-in_err-check_distinct-clause-written : goal.header::writing::write_header-returns-in_err-check_distinct-clause-written
header::writing::write_header-returns-in_err-check_distinct-clause-written t c =
    let x = header_level (out-Header c.args.header.now) in
    unencoded c.from_residual.result c.in_err-check_distinct.field-0.0 _ (header_image (header_view c.args.header.now)) _ _ c.from_residual.ensures.1
    (λ e. ap header_image (header-opened c.args.header.now) ∙ unwritten-rest x e) (rw c.deref.ensures.value at c.in_err-check_distinct.ensures.refused)

pub header::writing::write_header-returns-in_err-write_counter_signatures-clause-written :
    goal.header::writing::write_header-returns-in_err-write_counter_signatures-clause-written
header::writing::write_header-returns-in_err-write_counter_signatures-clause-written t c =
    let x = header_level (out-Header c.args.header.now) in
    unencoded c.from_residual-in_err-write_counter_signatures.result c.in_err-write_counter_signatures.field-0.0 _
    (header_image (header_view c.args.header.now)) _ _ c.from_residual-in_err-write_counter_signatures.ensures.1
    (λ e. ap header_image (header-opened c.args.header.now) ∙ unwritten-counter_signatures x e)
    (rw c.deref-2.ensures.value at c.in_err-write_counter_signatures.ensures.refused)

pub header::writing::write_header-returns-in_err-write_countersignatures-clause-written :
    goal.header::writing::write_header-returns-in_err-write_countersignatures-clause-written
header::writing::write_header-returns-in_err-write_countersignatures-clause-written t c =
    let x = header_level (out-Header c.args.header.now) in
    unencoded c.from_residual-in_err-write_countersignatures.result c.in_err-write_countersignatures.field-0.0 _
    (header_image (header_view c.args.header.now)) _ _ c.from_residual-in_err-write_countersignatures.ensures.1
    (λ e. ap header_image (header-opened c.args.header.now) ∙ unwritten-countersignatures x e)
    (rw c.deref-3.ensures.value at c.in_err-write_countersignatures.ensures.refused)

pub header::writing::write_header-returns-clause-written : goal.header::writing::write_header-returns-clause-written
header::writing::write_header-returns-clause-written t c =
    let x = out-Header c.args.header.now in
    let opened = header-opened c.args.header.now in
    let h = header_level x in
    let abbreviated = field-view _ _ ((search rules) ∙ c.to_i64-label.ensures)
    (optional-view (λ b. b.items) bstr.image x.countersignature0_v2) c.in_ok-write_optional.ensures.ok in
    subst (λ h. Encodes (header_image h) c.args.out.now.items c.write_rest.new.out.items c.write_rest.result) (sym opened)
    (map-put (fields_in h) (counter_signatures_in h) (countersignatures_in h) x.rest.items _ _ _ _ _ _ _ c.write_rest.result refl
    (rw c.deref.ensures.value at c.in_ok-check_distinct.ensures.ok)
    (subst (λ h. count_pairs h < 2 ^ 64) opened c.in_ok-write_head.ensures.fits)
    (subst (λ h. c.write_head.new.out.items ≡ c.args.out.now.items ++ least_head 5 (count_pairs h)) opened c.in_ok-write_head.ensures.ok)
    c.in_ok-write_fields.ensures.ok
    (rw c.deref-2.ensures.value at c.in_ok-write_counter_signatures.ensures.ok)
    (rw c.deref-3.ensures.value at c.in_ok-write_countersignatures.ensures.ok)
    abbreviated
    (rw c.deref-4.ensures.value at c.write_rest.ensures.ok) (rw c.deref-4.ensures.value at c.write_rest.ensures.refused))

pub signature::write_signature-returns-clause-written : goal.signature::write_signature-returns-clause-written
signature::write_signature-returns-clause-written t c =
    let opened = signature-opened c.args.signature.now in
    let put : AppendsItem c.write_header.new.out.items c.write_bytes.new.out.items (bytes c.deref.result.now) =
    record { in_range = c.in_ok-write_bytes.ensures.in_range; parts = c.in_ok-write_bytes.ensures.ok } in
    subst (λ s. AppendsImage (signature_array s) c.args.out.now.items c.write_bytes.new.out.items) (sym opened)
    (signature-put (signature_level (out-CoseSignature c.args.signature.now)) _ _ _ _ _ c.in_ok-write_array_head.ensures.ok
    c.in_ok-write_protected.ensures.written c.in_ok-write_header.ensures.written
    (rw c.deref.ensures.value at put))

pub signature::write_signatures-returns-in_err-write_signature-clause-refused : goal.signature::write_signatures-returns-in_err-write_signature-clause-refused
signature::write_signatures-returns-in_err-write_signature-clause-refused t c =
    let ss = c.args.signatures.now in
    let i = c.loop-signature.signature-index in
    let s = c.signature-item.result in
    let all = around signature_view ss i s (omega arith) c.signature-item.is in
    passes c.from_residual.result c.in_err-write_signature.field-0.0 (signature_array (signature_view s) ≡ None)
    (signatures_image (signatures_of (map signature_view ss)) ≡ None) c.from_residual.ensures.1
    (λ e. ap (λ ss. signatures_image (signatures_of ss)) all
    ∙ signatures-none (map signature_view (take i ss)) (map signature_view (drop (i + 1) ss)) (signature_view s) e) c.in_err-write_signature.ensures.written

pub signature::write_signatures-loop-signature-preserved : goal.signature::write_signatures-loop-signature-preserved
signature::write_signatures-loop-signature-preserved t c =
    let ss = c.args.signatures.now in
    let i = c.loop-signature.signature-index in
    let s = c.signature-item.result in
    subst (AppendsSignatures c.args.out.now.items c.write_signature.new.out.items) (sym (taken signature_view ss i s (omega arith) c.signature-item.is))
    (signatures-push (map signature_view (take i ss)) (signature_view s) _ _ _ c.loop-signature.invariant c.in_ok-write_signature.ensures.written)

pub protected::write_protected-returns-in-Some-clause-written : goal.protected::write_protected-returns-in-Some-clause-written
protected::write_protected-returns-in-Some-clause-written t c =
    let p = protected_view c.args.protected.now in
    let b = c.in-Some.bytes.items in
    let read = ap (λ p. p.original) (protected-opened c.args.protected.now) ∙ ap (option_map (λ v. v.items)) c.in-Some.is in
    let put : AppendsItem c.args.out.now.items c.write_bytes.new.out.items (bytes c.deref.result.now) =
    record { in_range = c.in_ok-write_bytes.ensures.in_range; parts = c.in_ok-write_bytes.ensures.ok } in
    string-put p b _ _ (protected_bytes-read p b read) (rw c.deref.ensures.value at put)

pub protected::write_protected-returns-clause-written : goal.protected::write_protected-returns-clause-written
protected::write_protected-returns-clause-written t c =
    let p = protected_view c.args.protected.now in
    let opened = protected-opened c.args.protected.now in
    let unread = ap (λ p. p.original) opened ∙ ap (option_map (λ v. v.items)) c.in_default.is in
    let put : AppendsItem c.args.out.now.items c.write_bytes-2.new.out.items (bytes c.deref-2.result.now) =
    record { in_range = c.in_ok-write_bytes-2.ensures.in_range; parts = c.in_ok-write_bytes-2.ensures.ok } in
    string-put p c.in_ok-bytes.bytes.items _ _ (protected_bytes-fresh p _ unread (ap (λ p. p.header) opened) ∙ c.in_ok-bytes.ensures.ok)
    (rw c.deref-2.ensures.value at put)

pub countersignature::write_countersignature-returns-clause-written : goal.countersignature::write_countersignature-returns-clause-written
countersignature::write_countersignature-returns-clause-written t c =
    let opened = countersignature-opened c.args.signature.now in
    let put : AppendsItem c.write_header.new.out.items c.write_bytes.new.out.items (bytes c.deref.result.now) =
    record { in_range = c.in_ok-write_bytes.ensures.in_range; parts = c.in_ok-write_bytes.ensures.ok } in
    subst (λ s. AppendsImage (signature_array s) c.args.out.now.items c.write_bytes.new.out.items) (sym opened)
    (signature-put (countersignature_level (out-CoseCountersignature c.args.signature.now)) _ _ _ _ _ c.in_ok-write_array_head.ensures.ok
    c.in_ok-write_protected.ensures.written c.in_ok-write_header.ensures.written
    (rw c.deref.ensures.value at put))

pub countersignature::write_each_countersignature-returns-in_err-write_countersignature-clause-refused :
    goal.countersignature::write_each_countersignature-returns-in_err-write_countersignature-clause-refused
countersignature::write_each_countersignature-returns-in_err-write_countersignature-clause-refused t c =
    let ss = c.args.signatures.now in
    let i = c.loop-signature.signature-index in
    let s = c.signature-item.result in
    let all = around countersignature_view ss i s (omega arith) c.signature-item.is in
    passes c.from_residual.result c.in_err-write_countersignature.field-0.0 (signature_array (countersignature_view s) ≡ None)
    (signatures_image (signatures_of (map countersignature_view ss)) ≡ None) c.from_residual.ensures.1
    (λ e. ap (λ ss. signatures_image (signatures_of ss)) all
    ∙ signatures-none (map countersignature_view (take i ss)) (map countersignature_view (drop (i + 1) ss))
    (countersignature_view s) e) c.in_err-write_countersignature.ensures.written

pub countersignature::write_each_countersignature-loop-signature-preserved : goal.countersignature::write_each_countersignature-loop-signature-preserved
countersignature::write_each_countersignature-loop-signature-preserved t c =
    let ss = c.args.signatures.now in
    let i = c.loop-signature.signature-index in
    let s = c.signature-item.result in
    subst (AppendsSignatures c.args.out.now.items c.write_countersignature.new.out.items)
    (sym (taken countersignature_view ss i s (omega arith) c.signature-item.is))
    (signatures-push (map countersignature_view (take i ss)) (countersignature_view s) _ _ _ c.loop-signature.invariant
    c.in_ok-write_countersignature.ensures.written)

-- ---- the old bytes are kept

pub header::writing::write_header-returns-in_err-write_fields-clause-kept : goal.header::writing::write_header-returns-in_err-write_fields-clause-kept
header::writing::write_header-returns-in_err-write_fields-clause-kept t c =
    extends-on c.args.out.now.items c.write_head.new.out.items _ c.in_ok-write_head.ensures.kept c.in_err-write_fields.ensures.kept

pub header::writing::write_header-returns-in_err-write_counter_signatures-clause-kept :
    goal.header::writing::write_header-returns-in_err-write_counter_signatures-clause-kept
header::writing::write_header-returns-in_err-write_counter_signatures-clause-kept t c =
    extends-on c.args.out.now.items c.write_head.new.out.items _ c.in_ok-write_head.ensures.kept
    (extends-on _ c.write_fields.new.out.items _ c.in_ok-write_fields.ensures.kept c.in_err-write_counter_signatures.ensures.kept)

pub header::writing::write_header-returns-in_err-write_countersignatures-clause-kept :
    goal.header::writing::write_header-returns-in_err-write_countersignatures-clause-kept
header::writing::write_header-returns-in_err-write_countersignatures-clause-kept t c =
    extends-on c.args.out.now.items c.write_head.new.out.items _ c.in_ok-write_head.ensures.kept
    (extends-on _ c.write_fields.new.out.items _ c.in_ok-write_fields.ensures.kept
    (extends-on _ c.write_counter_signatures.new.out.items _ c.in_ok-write_counter_signatures.ensures.kept c.in_err-write_countersignatures.ensures.kept))

pub header::writing::write_header-returns-in_err-write_optional-clause-kept : goal.header::writing::write_header-returns-in_err-write_optional-clause-kept
header::writing::write_header-returns-in_err-write_optional-clause-kept t c =
    extends-on c.args.out.now.items c.write_head.new.out.items _ c.in_ok-write_head.ensures.kept
    (extends-on _ c.write_fields.new.out.items _ c.in_ok-write_fields.ensures.kept
    (extends-on _ c.write_counter_signatures.new.out.items _ c.in_ok-write_counter_signatures.ensures.kept
    (extends-on _ c.write_countersignatures.new.out.items _ c.in_ok-write_countersignatures.ensures.kept c.in_err-write_optional.ensures.kept)))

pub header::writing::write_header-returns-clause-kept : goal.header::writing::write_header-returns-clause-kept
header::writing::write_header-returns-clause-kept t c =
    extends-on c.args.out.now.items c.write_head.new.out.items _ c.in_ok-write_head.ensures.kept
    (extends-on _ c.write_fields.new.out.items _ c.in_ok-write_fields.ensures.kept
    (extends-on _ c.write_counter_signatures.new.out.items _ c.in_ok-write_counter_signatures.ensures.kept
    (extends-on _ c.write_countersignatures.new.out.items _ c.in_ok-write_countersignatures.ensures.kept
    (extends-on _ c.write_optional.new.out.items _ c.in_ok-write_optional.ensures.kept c.write_rest.ensures.kept))))

pub header::writing::write_counter_signatures-returns-in_err-write_counter_signatures_head-clause-kept :
    goal.header::writing::write_counter_signatures-returns-in_err-write_counter_signatures_head-clause-kept
header::writing::write_counter_signatures-returns-in_err-write_counter_signatures_head-clause-kept t c =
    extends-on c.args.out.now.items c.write_parameter.new.out.items _ c.in_ok-write_parameter.ensures.kept c.in_err-write_counter_signatures_head.ensures.kept

pub header::writing::write_counter_signatures-returns-in_err-write_signatures-clause-kept :
    goal.header::writing::write_counter_signatures-returns-in_err-write_signatures-clause-kept
header::writing::write_counter_signatures-returns-in_err-write_signatures-clause-kept t c =
    extends-on c.args.out.now.items c.write_parameter.new.out.items _ c.in_ok-write_parameter.ensures.kept
    (extends-on _ c.write_counter_signatures_head.new.out.items _ c.in_ok-write_counter_signatures_head.ensures.kept c.in_err-write_signatures.ensures.kept)

pub header::writing::write_counter_signatures-returns-clause-kept : goal.header::writing::write_counter_signatures-returns-clause-kept
header::writing::write_counter_signatures-returns-clause-kept t c =
    extends-on c.args.out.now.items c.write_parameter.new.out.items _ c.in_ok-write_parameter.ensures.kept
    (extends-on _ c.write_counter_signatures_head.new.out.items _ c.in_ok-write_counter_signatures_head.ensures.kept c.in_ok-write_signatures.ensures.kept)

pub header::writing::write_countersignatures-returns-in_err-write_counter_signatures_head-clause-kept :
    goal.header::writing::write_countersignatures-returns-in_err-write_counter_signatures_head-clause-kept
header::writing::write_countersignatures-returns-in_err-write_counter_signatures_head-clause-kept t c =
    extends-on c.args.out.now.items c.write_parameter.new.out.items _ c.in_ok-write_parameter.ensures.kept c.in_err-write_counter_signatures_head.ensures.kept

pub header::writing::write_countersignatures-returns-in_err-write_each_countersignature-clause-kept :
    goal.header::writing::write_countersignatures-returns-in_err-write_each_countersignature-clause-kept
header::writing::write_countersignatures-returns-in_err-write_each_countersignature-clause-kept t c =
    extends-on c.args.out.now.items c.write_parameter.new.out.items _ c.in_ok-write_parameter.ensures.kept
    (extends-on _ c.write_counter_signatures_head.new.out.items _ c.in_ok-write_counter_signatures_head.ensures.kept
    c.in_err-write_each_countersignature.ensures.kept)

pub header::writing::write_countersignatures-returns-clause-kept : goal.header::writing::write_countersignatures-returns-clause-kept
header::writing::write_countersignatures-returns-clause-kept t c =
    extends-on c.args.out.now.items c.write_parameter.new.out.items _ c.in_ok-write_parameter.ensures.kept
    (extends-on _ c.write_counter_signatures_head.new.out.items _ c.in_ok-write_counter_signatures_head.ensures.kept
    c.in_ok-write_each_countersignature.ensures.kept)

pub signature::write_signature-returns-in_err-write_protected-clause-kept : goal.signature::write_signature-returns-in_err-write_protected-clause-kept
signature::write_signature-returns-in_err-write_protected-clause-kept t c =
    extends-on c.args.out.now.items c.write_array_head.new.out.items _ (least_head 4 3, c.in_ok-write_array_head.ensures.ok)
    c.in_err-write_protected.ensures.kept

pub signature::write_signature-returns-in_err-write_header-clause-kept : goal.signature::write_signature-returns-in_err-write_header-clause-kept
signature::write_signature-returns-in_err-write_header-clause-kept t c =
    extends-on c.args.out.now.items c.write_array_head.new.out.items _ (least_head 4 3, c.in_ok-write_array_head.ensures.ok)
    (extends-on _ c.write_protected.new.out.items _ c.in_ok-write_protected.ensures.kept c.in_err-write_header.ensures.kept)

pub signature::write_signature-returns-in_err-write_bytes-clause-kept : goal.signature::write_signature-returns-in_err-write_bytes-clause-kept
signature::write_signature-returns-in_err-write_bytes-clause-kept t c =
    extends-on c.args.out.now.items c.write_array_head.new.out.items _ (least_head 4 3, c.in_ok-write_array_head.ensures.ok)
    (extends-on _ c.write_protected.new.out.items _ c.in_ok-write_protected.ensures.kept
    (extends-on _ c.write_header.new.out.items _ c.in_ok-write_header.ensures.kept (extends-same _ _ c.in_err-write_bytes.ensures.refused)))

pub signature::write_signature-returns-clause-kept : goal.signature::write_signature-returns-clause-kept
signature::write_signature-returns-clause-kept t c =
    extends-on c.args.out.now.items c.write_array_head.new.out.items _ (least_head 4 3, c.in_ok-write_array_head.ensures.ok)
    (extends-on _ c.write_protected.new.out.items _ c.in_ok-write_protected.ensures.kept
    (extends-on _ c.write_header.new.out.items _ c.in_ok-write_header.ensures.kept (least_encoding (bytes c.deref.result.now), c.in_ok-write_bytes.ensures.ok)))

pub countersignature::write_countersignature-returns-in_err-write_protected-clause-kept :
    goal.countersignature::write_countersignature-returns-in_err-write_protected-clause-kept
countersignature::write_countersignature-returns-in_err-write_protected-clause-kept t c =
    extends-on c.args.out.now.items c.write_array_head.new.out.items _ (least_head 4 3, c.in_ok-write_array_head.ensures.ok)
    c.in_err-write_protected.ensures.kept

pub countersignature::write_countersignature-returns-in_err-write_header-clause-kept :
    goal.countersignature::write_countersignature-returns-in_err-write_header-clause-kept
countersignature::write_countersignature-returns-in_err-write_header-clause-kept t c =
    extends-on c.args.out.now.items c.write_array_head.new.out.items _ (least_head 4 3, c.in_ok-write_array_head.ensures.ok)
    (extends-on _ c.write_protected.new.out.items _ c.in_ok-write_protected.ensures.kept c.in_err-write_header.ensures.kept)

pub countersignature::write_countersignature-returns-in_err-write_bytes-clause-kept :
    goal.countersignature::write_countersignature-returns-in_err-write_bytes-clause-kept
countersignature::write_countersignature-returns-in_err-write_bytes-clause-kept t c =
    extends-on c.args.out.now.items c.write_array_head.new.out.items _ (least_head 4 3, c.in_ok-write_array_head.ensures.ok)
    (extends-on _ c.write_protected.new.out.items _ c.in_ok-write_protected.ensures.kept
    (extends-on _ c.write_header.new.out.items _ c.in_ok-write_header.ensures.kept (extends-same _ _ c.in_err-write_bytes.ensures.refused)))

pub countersignature::write_countersignature-returns-clause-kept : goal.countersignature::write_countersignature-returns-clause-kept
countersignature::write_countersignature-returns-clause-kept t c =
    extends-on c.args.out.now.items c.write_array_head.new.out.items _ (least_head 4 3, c.in_ok-write_array_head.ensures.ok)
    (extends-on _ c.write_protected.new.out.items _ c.in_ok-write_protected.ensures.kept
    (extends-on _ c.write_header.new.out.items _ c.in_ok-write_header.ensures.kept (least_encoding (bytes c.deref.result.now), c.in_ok-write_bytes.ensures.ok)))

-- ---- errors that are passed on, and loops

pub countersignature::write_countersignature-returns-in_err-write_array_head-clause-written :
    goal.countersignature::write_countersignature-returns-in_err-write_array_head-clause-written
countersignature::write_countersignature-returns-in_err-write_array_head-clause-written t c =
    memory_encodes c.from_residual.result OutOfMemory _ _ _ c.from_residual.ensures.1 refl

pub countersignature::write_countersignature-returns-in_err-write_bytes-clause-written :
    goal.countersignature::write_countersignature-returns-in_err-write_bytes-clause-written
countersignature::write_countersignature-returns-in_err-write_bytes-clause-written t c =
    memory_encodes c.from_residual-in_err-write_bytes.result OutOfMemory _ _ _ c.from_residual-in_err-write_bytes.ensures.1 refl

pub countersignature::write_countersignature-returns-in_err-write_array_head-clause-kept :
    goal.countersignature::write_countersignature-returns-in_err-write_array_head-clause-kept
countersignature::write_countersignature-returns-in_err-write_array_head-clause-kept t c =
    extends-same c.args.out.now.items _ c.in_err-write_array_head.ensures.refused

pub countersignature::write_countersignature-returns-in_err-write_protected-clause-written :
    goal.countersignature::write_countersignature-returns-in_err-write_protected-clause-written
countersignature::write_countersignature-returns-in_err-write_protected-clause-written t c =
    let s = c.args.signature.now in
    let level = countersignature_level (out-CoseCountersignature s) in
    unencoded c.from_residual-in_err-write_protected.result c.in_err-write_protected.field-0.0 _ (signature_array (countersignature_view s)) _ _
    c.from_residual-in_err-write_protected.ensures.1
    (λ e. ap signature_array (countersignature-opened s) ∙ unwritten-protected level e) c.in_err-write_protected.ensures.written

pub countersignature::write_countersignature-returns-in_err-write_header-clause-written :
    goal.countersignature::write_countersignature-returns-in_err-write_header-clause-written
countersignature::write_countersignature-returns-in_err-write_header-clause-written t c =
    let s = c.args.signature.now in
    let level = countersignature_level (out-CoseCountersignature s) in
    unencoded c.from_residual-in_err-write_header.result c.in_err-write_header.field-0.0 _ (signature_array (countersignature_view s)) _ _
    c.from_residual-in_err-write_header.ensures.1
    (λ e. ap signature_array (countersignature-opened s) ∙ unwritten-unprotected level e) c.in_err-write_header.ensures.written

pub signature::write_signature-returns-in_err-write_array_head-clause-written : goal.signature::write_signature-returns-in_err-write_array_head-clause-written
signature::write_signature-returns-in_err-write_array_head-clause-written t c =
    memory_encodes c.from_residual.result OutOfMemory _ _ _ c.from_residual.ensures.1 refl

pub signature::write_signature-returns-in_err-write_bytes-clause-written : goal.signature::write_signature-returns-in_err-write_bytes-clause-written
signature::write_signature-returns-in_err-write_bytes-clause-written t c =
    memory_encodes c.from_residual-in_err-write_bytes.result OutOfMemory _ _ _ c.from_residual-in_err-write_bytes.ensures.1 refl

pub signature::write_signature-returns-in_err-write_array_head-clause-kept : goal.signature::write_signature-returns-in_err-write_array_head-clause-kept
signature::write_signature-returns-in_err-write_array_head-clause-kept t c = extends-same c.args.out.now.items _ c.in_err-write_array_head.ensures.refused

pub signature::write_signature-returns-in_err-write_protected-clause-written : goal.signature::write_signature-returns-in_err-write_protected-clause-written
signature::write_signature-returns-in_err-write_protected-clause-written t c =
    let s = c.args.signature.now in
    let level = signature_level (out-CoseSignature s) in
    unencoded c.from_residual-in_err-write_protected.result c.in_err-write_protected.field-0.0 _ (signature_array (signature_view s)) _ _
    c.from_residual-in_err-write_protected.ensures.1
    (λ e. ap signature_array (signature-opened s) ∙ unwritten-protected level e) c.in_err-write_protected.ensures.written

pub signature::write_signature-returns-in_err-write_header-clause-written : goal.signature::write_signature-returns-in_err-write_header-clause-written
signature::write_signature-returns-in_err-write_header-clause-written t c =
    let s = c.args.signature.now in
    let level = signature_level (out-CoseSignature s) in
    unencoded c.from_residual-in_err-write_header.result c.in_err-write_header.field-0.0 _ (signature_array (signature_view s)) _ _
    c.from_residual-in_err-write_header.ensures.1
    (λ e. ap signature_array (signature-opened s) ∙ unwritten-unprotected level e) c.in_err-write_header.ensures.written

pub countersignature::write_each_countersignature-loop-signature-init : goal.countersignature::write_each_countersignature-loop-signature-init
countersignature::write_each_countersignature-loop-signature-init t c = no_signatures-put c.args.out.now.items

pub countersignature::write_each_countersignature-returns-in_err-write_countersignature-clause-ok :
    goal.countersignature::write_each_countersignature-returns-in_err-write_countersignature-clause-ok
countersignature::write_each_countersignature-returns-in_err-write_countersignature-clause-ok t c =
    no_success c.from_residual.result c.in_err-write_countersignature.field-0.0 _ c.from_residual.ensures.1

pub countersignature::write_each_countersignature-returns-in_err-write_countersignature-clause-kept :
    goal.countersignature::write_each_countersignature-returns-in_err-write_countersignature-clause-kept
countersignature::write_each_countersignature-returns-in_err-write_countersignature-clause-kept t c =
    let so_far = map countersignature_view (take c.loop-signature.signature-index c.args.signatures.now) in
    let kept = signatures-kept so_far c.args.out.now.items c.loop-signature.out.items c.loop-signature.invariant in
    extends-on c.args.out.now.items c.loop-signature.out.items _ kept c.in_err-write_countersignature.ensures.kept

pub countersignature::write_each_countersignature-returns-clause-ok : goal.countersignature::write_each_countersignature-returns-clause-ok
countersignature::write_each_countersignature-returns-clause-ok t c =
    signatures-done countersignature_view c.args.signatures.now c.loop-signature.signature-index _ _ (omega arith) c.loop-signature.invariant

pub countersignature::write_each_countersignature-returns-clause-kept : goal.countersignature::write_each_countersignature-returns-clause-kept
countersignature::write_each_countersignature-returns-clause-kept t c =
    let so_far = map countersignature_view (take c.loop-signature.signature-index c.args.signatures.now) in
    signatures-kept so_far c.args.out.now.items c.loop-signature.out.items c.loop-signature.invariant

pub signature::write_signatures-loop-signature-init : goal.signature::write_signatures-loop-signature-init
signature::write_signatures-loop-signature-init t c = no_signatures-put c.args.out.now.items

pub signature::write_signatures-returns-in_err-write_signature-clause-ok : goal.signature::write_signatures-returns-in_err-write_signature-clause-ok
signature::write_signatures-returns-in_err-write_signature-clause-ok t c =
    no_success c.from_residual.result c.in_err-write_signature.field-0.0 _ c.from_residual.ensures.1

pub signature::write_signatures-returns-in_err-write_signature-clause-kept : goal.signature::write_signatures-returns-in_err-write_signature-clause-kept
signature::write_signatures-returns-in_err-write_signature-clause-kept t c =
    let so_far = map signature_view (take c.loop-signature.signature-index c.args.signatures.now) in
    let kept = signatures-kept so_far c.args.out.now.items c.loop-signature.out.items c.loop-signature.invariant in
    extends-on c.args.out.now.items c.loop-signature.out.items _ kept c.in_err-write_signature.ensures.kept

pub signature::write_signatures-returns-clause-ok : goal.signature::write_signatures-returns-clause-ok
signature::write_signatures-returns-clause-ok t c =
    signatures-done signature_view c.args.signatures.now c.loop-signature.signature-index _ _ (omega arith) c.loop-signature.invariant

pub signature::write_signatures-returns-clause-kept : goal.signature::write_signatures-returns-clause-kept
signature::write_signatures-returns-clause-kept t c =
    let so_far = map signature_view (take c.loop-signature.signature-index c.args.signatures.now) in
    signatures-kept so_far c.args.out.now.items c.loop-signature.out.items c.loop-signature.invariant

pub header::writing::write_counter_signatures-returns-then-is_empty-clause-kept :
    goal.header::writing::write_counter_signatures-returns-then-is_empty-clause-kept
header::writing::write_counter_signatures-returns-then-is_empty-clause-kept t c = extends-same c.args.out.now.items _ refl

pub header::writing::write_counter_signatures-returns-in_err-write_parameter-clause-ok :
    goal.header::writing::write_counter_signatures-returns-in_err-write_parameter-clause-ok
header::writing::write_counter_signatures-returns-in_err-write_parameter-clause-ok t c =
    no_success c.from_residual.result OutOfMemory _ c.from_residual.ensures.1

pub header::writing::write_counter_signatures-returns-in_err-write_parameter-clause-refused :
    goal.header::writing::write_counter_signatures-returns-in_err-write_parameter-clause-refused
header::writing::write_counter_signatures-returns-in_err-write_parameter-clause-refused t c = memory_refuses c.from_residual.result _ c.from_residual.ensures.1

pub header::writing::write_counter_signatures-returns-in_err-write_counter_signatures_head-clause-ok :
    goal.header::writing::write_counter_signatures-returns-in_err-write_counter_signatures_head-clause-ok
header::writing::write_counter_signatures-returns-in_err-write_counter_signatures_head-clause-ok t c =
    no_success c.from_residual-in_err-write_counter_signatures_head.result OutOfMemory _ c.from_residual-in_err-write_counter_signatures_head.ensures.1

pub header::writing::write_counter_signatures-returns-in_err-write_counter_signatures_head-clause-refused :
    goal.header::writing::write_counter_signatures-returns-in_err-write_counter_signatures_head-clause-refused
header::writing::write_counter_signatures-returns-in_err-write_counter_signatures_head-clause-refused t c =
    memory_refuses c.from_residual-in_err-write_counter_signatures_head.result _ c.from_residual-in_err-write_counter_signatures_head.ensures.1

pub header::writing::write_counter_signatures-returns-in_err-write_parameter-clause-kept :
    goal.header::writing::write_counter_signatures-returns-in_err-write_parameter-clause-kept
header::writing::write_counter_signatures-returns-in_err-write_parameter-clause-kept t c = c.in_err-write_parameter.ensures.kept

pub header::writing::write_counter_signatures-returns-in_err-write_signatures-clause-ok :
    goal.header::writing::write_counter_signatures-returns-in_err-write_signatures-clause-ok
header::writing::write_counter_signatures-returns-in_err-write_signatures-clause-ok t c =
    no_success c.from_residual-in_err-write_signatures.result _ _ c.from_residual-in_err-write_signatures.ensures.1

pub header::writing::write_counter_signatures-returns-in_err-write_signatures-clause-refused :
    goal.header::writing::write_counter_signatures-returns-in_err-write_signatures-clause-refused
header::writing::write_counter_signatures-returns-in_err-write_signatures-clause-refused t c =
    let told = c.in_err-write_signatures.ensures.refused in
    on_err c.from_residual-in_err-write_signatures.result _ _ c.from_residual-in_err-write_signatures.ensures.1 told

pub header::writing::write_countersignatures-returns-then-is_empty-clause-kept : goal.header::writing::write_countersignatures-returns-then-is_empty-clause-kept
header::writing::write_countersignatures-returns-then-is_empty-clause-kept t c = extends-same c.args.out.now.items _ refl

pub header::writing::write_countersignatures-returns-in_err-write_parameter-clause-ok :
    goal.header::writing::write_countersignatures-returns-in_err-write_parameter-clause-ok
header::writing::write_countersignatures-returns-in_err-write_parameter-clause-ok t c =
    no_success c.from_residual.result OutOfMemory _ c.from_residual.ensures.1

pub header::writing::write_countersignatures-returns-in_err-write_parameter-clause-refused :
    goal.header::writing::write_countersignatures-returns-in_err-write_parameter-clause-refused
header::writing::write_countersignatures-returns-in_err-write_parameter-clause-refused t c = memory_refuses c.from_residual.result _ c.from_residual.ensures.1

pub header::writing::write_countersignatures-returns-in_err-write_counter_signatures_head-clause-ok :
    goal.header::writing::write_countersignatures-returns-in_err-write_counter_signatures_head-clause-ok
header::writing::write_countersignatures-returns-in_err-write_counter_signatures_head-clause-ok t c =
    no_success c.from_residual-in_err-write_counter_signatures_head.result OutOfMemory _ c.from_residual-in_err-write_counter_signatures_head.ensures.1

pub header::writing::write_countersignatures-returns-in_err-write_counter_signatures_head-clause-refused :
    goal.header::writing::write_countersignatures-returns-in_err-write_counter_signatures_head-clause-refused
header::writing::write_countersignatures-returns-in_err-write_counter_signatures_head-clause-refused t c =
    memory_refuses c.from_residual-in_err-write_counter_signatures_head.result _ c.from_residual-in_err-write_counter_signatures_head.ensures.1

pub header::writing::write_countersignatures-returns-in_err-write_parameter-clause-kept :
    goal.header::writing::write_countersignatures-returns-in_err-write_parameter-clause-kept
header::writing::write_countersignatures-returns-in_err-write_parameter-clause-kept t c = c.in_err-write_parameter.ensures.kept

pub header::writing::write_countersignatures-returns-in_err-write_each_countersignature-clause-ok :
    goal.header::writing::write_countersignatures-returns-in_err-write_each_countersignature-clause-ok
header::writing::write_countersignatures-returns-in_err-write_each_countersignature-clause-ok t c =
    no_success c.from_residual-in_err-write_each_countersignature.result _ _ c.from_residual-in_err-write_each_countersignature.ensures.1

pub header::writing::write_countersignatures-returns-in_err-write_each_countersignature-clause-refused :
    goal.header::writing::write_countersignatures-returns-in_err-write_each_countersignature-clause-refused
header::writing::write_countersignatures-returns-in_err-write_each_countersignature-clause-refused t c =
    let told = c.in_err-write_each_countersignature.ensures.refused in
    on_err c.from_residual-in_err-write_each_countersignature.result _ _ c.from_residual-in_err-write_each_countersignature.ensures.1 told

pub header::writing::write_header-returns-in_err-check_distinct-clause-kept : goal.header::writing::write_header-returns-in_err-check_distinct-clause-kept
header::writing::write_header-returns-in_err-check_distinct-clause-kept t c = extends-same c.args.out.now.items _ refl

pub header::writing::write_header-returns-in_err-write_head-clause-written : goal.header::writing::write_header-returns-in_err-write_head-clause-written
header::writing::write_header-returns-in_err-write_head-clause-written t c =
    memory_encodes c.from_residual-in_err-write_head.result OutOfMemory _ _ _ c.from_residual-in_err-write_head.ensures.1 refl

pub header::writing::write_header-returns-in_err-write_head-clause-kept : goal.header::writing::write_header-returns-in_err-write_head-clause-kept
header::writing::write_header-returns-in_err-write_head-clause-kept t c = c.in_err-write_head.ensures.kept

pub header::writing::write_header-returns-in_err-write_fields-clause-written : goal.header::writing::write_header-returns-in_err-write_fields-clause-written
header::writing::write_header-returns-in_err-write_fields-clause-written t c =
    memory_encodes c.from_residual-in_err-write_fields.result _ _ _ _ c.from_residual-in_err-write_fields.ensures.1 c.in_err-write_fields.ensures.memory

pub protected::write_protected-returns-in_err-write_bytes-clause-written : goal.protected::write_protected-returns-in_err-write_bytes-clause-written
protected::write_protected-returns-in_err-write_bytes-clause-written t c =
    memory_encodes c.from_residual.result OutOfMemory _ _ _ c.from_residual.ensures.1 refl

pub protected::write_protected-returns-in_err-write_bytes-clause-kept : goal.protected::write_protected-returns-in_err-write_bytes-clause-kept
protected::write_protected-returns-in_err-write_bytes-clause-kept t c = extends-same c.args.out.now.items _ c.in_err-write_bytes.ensures.refused

pub protected::write_protected-returns-in_err-write_bytes-clause-refused : goal.protected::write_protected-returns-in_err-write_bytes-clause-refused
protected::write_protected-returns-in_err-write_bytes-clause-refused t c = on_error c.from_residual.result _ c.in_err-write_bytes.ensures.refused

pub protected::write_protected-returns-in_err-write_bytes-2-clause-written : goal.protected::write_protected-returns-in_err-write_bytes-2-clause-written
protected::write_protected-returns-in_err-write_bytes-2-clause-written t c =
    memory_encodes c.from_residual-in_err-write_bytes-2.result OutOfMemory _ _ _ c.from_residual-in_err-write_bytes-2.ensures.1 refl

pub protected::write_protected-returns-in_err-write_bytes-2-clause-kept : goal.protected::write_protected-returns-in_err-write_bytes-2-clause-kept
protected::write_protected-returns-in_err-write_bytes-2-clause-kept t c = extends-same c.args.out.now.items _ c.in_err-write_bytes-2.ensures.refused

pub protected::write_protected-returns-in_err-write_bytes-2-clause-refused : goal.protected::write_protected-returns-in_err-write_bytes-2-clause-refused
protected::write_protected-returns-in_err-write_bytes-2-clause-refused t c =
    on_error c.from_residual-in_err-write_bytes-2.result _ c.in_err-write_bytes-2.ensures.refused

pub protected::write_protected-returns-in-Some-clause-kept : goal.protected::write_protected-returns-in-Some-clause-kept
protected::write_protected-returns-in-Some-clause-kept t c = (least_encoding (bytes c.deref.result.now), c.in_ok-write_bytes.ensures.ok)

pub protected::write_protected-returns-clause-kept : goal.protected::write_protected-returns-clause-kept
protected::write_protected-returns-clause-kept t c = (least_encoding (bytes c.deref-2.result.now), c.in_ok-write_bytes-2.ensures.ok)

pub protected::write_protected-returns-in_err-bytes-clause-written : goal.protected::write_protected-returns-in_err-bytes-clause-written
protected::write_protected-returns-in_err-bytes-clause-written t c =
    let p = protected_view c.args.protected.now in
    let opened = protected-opened c.args.protected.now in
    let unread = ap (λ p. p.original) opened ∙ ap (option_map (λ v. v.items)) c.in_default.is in
    unencoded c.from_residual-in_err-bytes.result c.in_err-bytes.field-0.0 _ (option_map bytes (protected_bytes p)) _ _ c.from_residual-in_err-bytes.ensures.1
    (λ e. ap (option_map bytes) (protected_bytes-fresh p _ unread (ap (λ p. p.header) opened) ∙ e)) c.in_err-bytes.ensures.refused

pub protected::write_protected-returns-in_err-bytes-clause-kept : goal.protected::write_protected-returns-in_err-bytes-clause-kept
protected::write_protected-returns-in_err-bytes-clause-kept t c = extends-same c.args.out.now.items _ refl

pub protected::write_protected-returns-in_err-bytes-clause-refused : goal.protected::write_protected-returns-in_err-bytes-clause-refused
protected::write_protected-returns-in_err-bytes-clause-refused t c = on_error c.from_residual-in_err-bytes.result _ refl
