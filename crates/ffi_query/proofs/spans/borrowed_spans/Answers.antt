use Rattle.std.proofs.Common.{◌∙◌, sym, subst}
use Rattle.std.specs.Option.{option_copied}
use Rattle.ffi_query.specs.Seen.{seen_item}
use Rattle.ffi_query.specs.Spans.{IsMessageSpans, with_structure}
use Rattle.ffi_query.specs.View.{HasNoView}
use Rattle.ffi_query.proofs.Laid.{item_of, once_of, structure_of_seen, tells_of}
use Rattle.ffi_query.proofs.Spanning.{plain_refused, plain_spans_are, structure_is}
use Rattle.ffi_query.proofs.spans.borrowed_spans.Goals as goal

pub returns-in-Ok : goal.returns-in-Ok
returns-in-Ok c =
    λ i ns.
    let k = c.args.kind in
    let b = c.args.bytes.now in
    let aad = c.args.external_aad.now in
    let d = option_copied c.args.detached in
    let y = c.in_ok-layout.layout in
    let h = c.in-Ok-true.ensures.valid c.in_ok-layout.ensures c.in-Ok-true.field-0-test in
    let x = c.texts_of_seen-texts.result in
    let texts = c.texts_of_seen-texts.ensures in
    let found = structure_of_seen k b y h aad c.args.out.now c.put_structure.new.out (option_copied c.given_content-given.result) _
    (rw c.in-Ok.is at c.put_structure.ensures)
    ((λ e. absurd (cc)), (λ e. absurd (cc))) in
    let t = found.0 in
    let encoded = structure_is k b aad t d (option_copied c.given_content-given.result) y x texts.protected texts.signed c.given_content-given.ensures
    found.1 in
    let are = plain_spans_are k i aad d ns b t (seen_item h) x y.seen.is_tagged c.in_ok-len.len c.unsized_spans-spans.result (texts.texts k h)
    c.unsized_spans-spans.ensures c.in_ok-len.ensures encoded (tells_of k b y h c.one_item.ensures)
    (once_of k b y h d (sym c.has_both.ensures ∙ c.if-has_both.false)) in (
      seen_item h,
      item_of k b y h,
      (
        t,
        subst (λ m. IsMessageSpans k i aad d ns b (seen_item h) m t) (sym c.with_structure.ensures)
            (subst (λ n. IsMessageSpans k i aad d ns b (seen_item h) (with_structure c.unsized_spans-spans.result n) t) (sym found.2.1) are),
        found.2.0,
      ),
    )

pub returns-in_ok-refusal-in-Err-put_structure : goal.returns-in_ok-refusal-in-Err-put_structure
returns-in_ok-refusal-in-Err-put_structure c =
    λ i ns.
    let k = c.args.kind in
    let b = c.args.bytes.now in
    let aad = c.args.external_aad.now in
    let d = option_copied c.args.detached in
    let y = c.in_ok-layout.layout in
    let h = c.in-Ok-true.ensures.valid c.in_ok-layout.ensures c.in-Ok-true.field-0-test in
    let texts = c.texts_of_seen-texts.ensures in
    plain_refused k i aad d (option_copied c.given_content-given.result) ns b y h c.texts_of_seen-texts.result c.in_ok-len.len
    c.unsized_spans-spans.result c.args.out.now c.put_structure.new.out (HasNoView k i aad d ns) c.in-Err-put_structure.error
    c.in_ok-refusal-in-Err-put_structure.refusal
    (texts.texts k h) texts.protected texts.signed c.given_content-given.ensures c.unsized_spans-spans.ensures c.in_ok-len.ensures
    (tells_of k b y h c.one_item.ensures) (once_of k b y h d (sym c.has_both.ensures ∙ c.if-has_both.false))
    (rw c.in-Err-put_structure.is at c.put_structure.ensures) (sym c.in_ok-refusal-in-Err-put_structure.ensures)
