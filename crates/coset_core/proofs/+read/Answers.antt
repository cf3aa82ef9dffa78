use Rattle.std.proofs.Common.{◌≡◌, Some, Err, true, false, option_map, map, ap, sym, subst, refl, ◌∙◌, ◌-◌, arith, rules}
use Rattle.coset_value.specs.Item.{Item, Items, array, bytes}
use Rattle.coset_codec.specs.Inputs.{state, AreWithin}
use Rattle.coset_codec.proofs.Inputs.{items_smaller, pairs_fewer, pairs_smaller}
use Rattle.coset_codec.specs.Shape.{Each}
use Rattle.coset_codec.specs.ShapeLaws.{some-one}
use Rattle.coset_codec.specs.Errors.{stored, UnlessMemory}
use Rattle.coset_codec.specs.InPlace.{Fills}
use Rattle.coset_core.specs.Fields.{HasOneIv}
use Rattle.coset_core.specs.FieldViews.{fields_view}
use Rattle.coset_core.specs.HeaderAgain.{array-is}
use Rattle.coset_core.specs.Headers.{SignatureView, layered_header, layered_protected, layered_signature}
use Rattle.coset_core.specs.Views.{header_view, protected_view, signature_view}
use Rattle.coset_core.specs.ViewLaws.{protected-made, protected-opened, signature-made}
use Rattle.coset_core.specs.declared.protected.ProtectedHeader.{out-ProtectedHeader}
use Rattle.coset_core.specs.declared.signature.CoseSignature.{out-roll-CoseSignature}
use Rattle.coset_core.proofs.Reading.{no_layer_left, protected_filled}
use Rattle.coset_codec.proofs.Entered.{moves_on}
use Rattle.coset_codec.proofs.InPlace.{last_filled, one_filled_more, one_refused_more}
use Rattle.coset_codec.proofs.Lists.{all_read}
use Rattle.coset_core.proofs.Forward.{not_entered, one_iv_yet, so_far_none, so_far_more, ends, pairs_refused, counter_signatures_refused, not_kept}
use Rattle.coset_core.proofs.Forward.{second_refused, one_filled, more_filled, elements_refused, second_read}
use Rattle.coset_core.proofs.Forward.{last_refused, elements_filled, unprotected_refused}
use Rattle.coset_core.proofs.Forward.{protected_refused}
use Rattle.coset_core.proofs.PassedOn.{no_success}
use Rattle.coset_core.proofs.+read.Goals as goal
use Rattle.coset_core.proofs.+read.Goals.{header::reading::fill_counter_signatures-then-one, header::reading::fill_counter_signatures-else-one}

pub protected::fill_protected-returns-then-layers-eq0 : goal.protected::fill_protected-returns-then-layers-eq0
protected::fill_protected-returns-then-layers-eq0 t c = λ b kept n. no_layer_left c.args.layers (bytes b) b c.if-layers-eq0.true refl

pub protected::fill_protected-returns : goal.protected::fill_protected-returns
protected::fill_protected-returns t c = λ b kept.
    let o = option_map (λ v. v.items) (out-ProtectedHeader c.args.protected.now).original_data in
    let is : o ≡ Some b = sym (ap (λ p. p.original) (protected-opened c.args.protected.now)) ∙ kept in
    let held : o ≡ Some c.in-Some.content.items = ap (option_map (λ v. v.items)) c.in-Some.is in
    subst (λ y. Fills (layered_protected c.args.layers) (bytes b) y (stored c.fill_content.new.error c.fill_content.result)) (sym (protected-made _))
    (protected_filled c.args.layers (c.args.layers - 1) b c.deref.result.now o (header_view c.fill_content.new.header)
    (stored c.fill_content.new.error c.fill_content.result) (omega (arith, c.if-layers-eq0.false)) is
    (c.deref.ensures.value ∙ some-one held is) c.fill_content.ensures)

pub header::reading::fill_counter_signatures-returns-clause-fills : goal.header::reading::fill_counter_signatures-returns-clause-fills
header::reading::fill_counter_signatures-returns-clause-fills t c = elim c.if-one.branch [
  | header::reading::fill_counter_signatures-then-one w ↦ λ v z stands.
      let here = c.in_ok-one.ensures.enters v z stands in
      let read = w.fill_single_signature-filled.ensures.fills here.0 z here.2 in (
        c.finish.ensures.passes read.0.0 z (rw (w.elements-is, w.input-is) read.0.1),
        rw (w.all-is, w.filled-is, w.error-is) (one_filled (layered_signature c.args.layers) v here.0 _ _ here.1 (rw w.if-one.true at here.3) read.1),
      )
  | header::reading::fill_counter_signatures-else-one w ↦ λ v z stands.
      let here = c.in_ok-one.ensures.enters v z stands in
      let read = w.fill_signature_list-filled.ensures.fills here.0 z here.2 in (
        c.finish.ensures.passes read.0.0 z (rw (w.elements-is, w.input-is) read.0.1),
        rw (w.all-is, w.filled-is, w.error-is) (more_filled (layered_signature c.args.layers) v here.0 _ _ here.1 (rw w.if-one.false at here.3) read.1),
      )
]

pub signature::fill_signature_list-loop-all-preserved : goal.signature::fill_signature_list-loop-all-preserved
signature::fill_signature_list-loop-all-preserved t c =
    let next = rw c.if-branch.true at c.in_ok-next_place.ensures in
    let read = c.in_ok-fill_signature.ensures.shrinks in
    record {
      shrinks =
          let one = next.shrinks in
          let before = c.loop-all.invariant.shrinks in
          omega (arith, read, one, before);
      size =
          let behind = items_smaller c.next_place.new.elements (state c.next_place.new.input) (state c.fill_signature.new.input) read in
          let one = next.size in
          let before = c.loop-all.invariant.size in
          omega (arith, behind, one, before);
      fills = λ vs z within.
          let p = c.loop-all.invariant.fills vs z within in
          one_filled_more (layered_signature c.args.layers) vs (state c.loop-all.input) (state c.next_place.new.input)
          (state c.fill_signature.new.input) z c.loop-all.elements c.next_place.new.elements (map signature_view c.loop-all.all.items) _
          (signature_view c.fill_signature.new.signed) p (next.next p.others z p.within) c.in_ok-fill_signature.ensures.fills
          (last_filled signature_view c.loop-all.all.items c.next_place.new.all.items c.len-last.result next.place.0 c.fill_signature.new.signed
          (search rules) next.place.1);
    }

pub signature::fill_signature_list-returns-in_err-fill_signature-clause-fills : goal.signature::fill_signature_list-returns-in_err-fill_signature-clause-fills
signature::fill_signature_list-returns-in_err-fill_signature-clause-fills t c = λ vs z within.
    let next = rw c.if-branch.true at c.in_ok-next_place.ensures in
    let p = c.loop-all.invariant.fills vs z within in
    one_refused_more (layered_signature c.args.layers) vs (state c.loop-all.input) (state c.next_place.new.input)
    (state c.fill_signature.new.input) z c.loop-all.elements c.next_place.new.elements (map signature_view c.loop-all.all.items) _
    (signature_view c.fill_signature.new.signed) c.from_residual-in_err-fill_signature.result c.fill_signature.new.error c.in_err-fill_signature.field-0.0
    c.from_residual-in_err-fill_signature.ensures.1 p (next.next p.others z p.within) c.in_err-fill_signature.ensures.fills

pub signature::fill_signature_list-returns-clause-fills : goal.signature::fill_signature_list-returns-clause-fills
signature::fill_signature_list-returns-clause-fills t c = λ vs z within.
    let next = rw c.if-branch.false at c.in_ok-next_place.ensures in
    let p = c.loop-all.invariant.fills vs z within in
    let none = next.next p.others z p.within in (
      (_, none.1),
      subst (λ xs. Each (layered_signature c.args.layers).describes vs (map signature_view xs)) (sym next.place)
          (all_read (layered_signature c.args.layers) vs p.others (map signature_view c.loop-all.all.items) p.continues none.0),
    )

pub header::reading::fill_header-returns-in_err-begin_pairs-clause-fills : goal.header::reading::fill_header-returns-in_err-begin_pairs-clause-fills
header::reading::fill_header-returns-in_err-begin_pairs-clause-fills t c = λ v z stands.
    not_entered c.args.layers v _ (state c.begin_pairs.new.input) z c.from_residual.result c.begin_pairs.new.error c.in_err-begin_pairs.field-0.0
    c.from_residual.ensures.1 (c.in_err-begin_pairs.ensures.enters v z stands)

pub header::reading::fill_pairs-loop-version-init : goal.header::reading::fill_pairs-loop-version-init
header::reading::fill_pairs-loop-version-init t c = record {
  one_iv = one_iv_yet c.args.header.now c.requires.empty;
  shrinks = omega arith;
  size = omega arith;
  fills = λ all z within. so_far_none c.args.layers all c.args.header.now (state c.args.input.now) z c.args.pairs.now c.requires.empty within;
}

pub header::reading::fill_pairs-fill_counter_signatures-requires : goal.header::reading::fill_pairs-fill_counter_signatures-requires
header::reading::fill_pairs-fill_counter_signatures-requires t c =
    let next = rw c.in-Some.is at c.in_ok-version.ensures in
    let inner = next.value refl in
    let before = c.loop-version.invariant.size in
    (omega (arith, inner, before, c.decreases), ap (map signature_view) c.new-read.ensures.items)

pub header::reading::fill_pairs-loop-version-preserved : goal.header::reading::fill_pairs-loop-version-preserved
header::reading::fill_pairs-loop-version-preserved t c =
    let next = rw c.in-Some.is at c.in_ok-version.ensures in
    let read = c.in_default-fill_counter_signatures.ensures in
    let keeps = c.in_ok-keep_signatures.ensures.keeps in
    record {
      one_iv = subst HasOneIv (sym keeps.fields) next.one_iv;
      shrinks =
          let one = next.shrinks in
          let two = read.shrinks in
          let before = c.loop-version.invariant.shrinks in
          omega (arith, one, two, before);
      size =
          let behind = pairs_smaller c.fill_fields.new.pairs (state c.fill_fields.new.input) (state c.fill_counter_signatures.new.input) read.shrinks in
          let one = next.size in
          let before = c.loop-version.invariant.size in
          omega (arith, behind, one, before);
      fills = λ all z within.
          let p = c.loop-version.invariant.fills all z within in
          so_far_more c.in-Some.version c.args.layers all c.loop-version.header c.fill_fields.new.header c.keep_signatures.new.header
          (state c.loop-version.input) (state c.fill_fields.new.input) (state c.fill_counter_signatures.new.input) z
          c.loop-version.pairs c.fill_fields.new.pairs (map signature_view c.fill_counter_signatures.new.all.items) p
          (next.fills all p.left p.values z p.walks p.within).0 next.others (sym c.has_signatures_of.ensures ∙ c.if-has_signatures_of.false) read.fills keeps;
    }

pub header::reading::fill_pairs-loop-version-smaller : goal.header::reading::fill_pairs-loop-version-smaller
header::reading::fill_pairs-loop-version-smaller t c =
    let next = rw c.in-Some.is at c.in_ok-version.ensures in
    let one = next.turns refl in
    let behind = pairs_fewer c.fill_fields.new.pairs (state c.fill_fields.new.input)
    (state c.fill_counter_signatures.new.input) c.in_default-fill_counter_signatures.ensures.shrinks in
    omega (arith, one, behind)

pub header::reading::fill_pairs-returns-in_err-version-clause-fills : goal.header::reading::fill_pairs-returns-in_err-version-clause-fills
header::reading::fill_pairs-returns-in_err-version-clause-fills t c = λ all z within.
    let p = c.loop-version.invariant.fills all z within in
    pairs_refused c.args.layers all p.values z (fields_view c.fill_fields.new.header)
    (state c.fill_fields.new.input) c.fill_fields.new.pairs _ c.from_residual.result c.fill_fields.new.error c.in_err-version.field-0.0
    c.from_residual.ensures.1
    (c.in_err-version.ensures.fills all p.left p.values z p.walks p.within)

pub header::reading::fill_pairs-returns-then-has_signatures_of-clause-fills : goal.header::reading::fill_pairs-returns-then-has_signatures_of-clause-fills
header::reading::fill_pairs-returns-then-has_signatures_of-clause-fills t c = λ all z within.
    let next = rw c.in-Some.is at c.in_ok-version.ensures in
    let p = c.loop-version.invariant.fills all z within in
    second_refused c.in-Some.version c.args.layers all c.loop-version.header c.fill_fields.new.header (state c.loop-version.input)
    (state c.fill_fields.new.input) (state c.reject_second_value.new.input) z c.loop-version.pairs c.fill_fields.new.pairs _
    (stored c.reject_second_value.new.error c.reject_second_value.result) p (next.fills all p.left p.values z p.walks p.within).0 next.others
    (sym c.has_signatures_of.ensures ∙ c.if-has_signatures_of.true) c.reject_second_value.ensures.passes

pub header::reading::fill_pairs-returns-in-Err-clause-fills : goal.header::reading::fill_pairs-returns-in-Err-clause-fills
header::reading::fill_pairs-returns-in-Err-clause-fills t c = λ all z within.
    let next = rw c.in-Some.is at c.in_ok-version.ensures in
    let p = c.loop-version.invariant.fills all z within in
    counter_signatures_refused c.in-Some.version c.args.layers all p.values (fields_view c.fill_fields.new.header) (state c.fill_fields.new.input)
    (state c.fill_counter_signatures.new.input) z c.fill_fields.new.pairs
    (map signature_view c.fill_counter_signatures.new.all.items) (header_view c.fill_fields.new.header)
    (Err c.in-Err.refused) c.fill_counter_signatures.new.error c.in-Err.refused refl
    (next.fills all p.left p.values z p.walks p.within).0 c.in-Err.ensures.fills

pub header::reading::fill_pairs-returns-in_err-keep_signatures-clause-fills : goal.header::reading::fill_pairs-returns-in_err-keep_signatures-clause-fills
header::reading::fill_pairs-returns-in_err-keep_signatures-clause-fills t c = λ all z within.
    let next = rw c.in-Some.is at c.in_ok-version.ensures in
    let p = c.loop-version.invariant.fills all z within in
    not_kept c.in-Some.version c.args.layers all p.values (fields_view c.fill_fields.new.header) (state c.fill_fields.new.input)
    (state c.fill_counter_signatures.new.input) z c.fill_fields.new.pairs
    (map signature_view c.fill_counter_signatures.new.all.items) _ c.from_residual-in_err-keep_signatures.result c.keep_signatures.new.error
    c.in_err-keep_signatures.field-0.0 c.from_residual-in_err-keep_signatures.ensures.1
    (next.fills all p.left p.values z p.walks p.within).0 c.in_default-fill_counter_signatures.ensures.fills c.in_err-keep_signatures.ensures.refused

pub header::reading::fill_pairs-returns-clause-fills : goal.header::reading::fill_pairs-returns-clause-fills
header::reading::fill_pairs-returns-clause-fills t c = λ all z within.
    let next = rw c.in_default.is at c.in_ok-version.ensures in
    let p = c.loop-version.invariant.fills all z within in
    ends c.args.layers all z c.loop-version.header c.fill_fields.new.header (state c.loop-version.input)
    (state c.fill_fields.new.input) c.loop-version.pairs c.fill_fields.new.pairs p
    (next.fills all p.left p.values z p.walks p.within) next.one_iv next.others

pub signature::fill_signature-returns-clause-fills : goal.signature::fill_signature-returns-clause-fills
signature::fill_signature-returns-clause-fills t c = λ v z stands.
    let here = c.in_ok-begin_items.ensures.enters v z stands in
    let read = c.fill_elements-filled.ensures.fills here.0 z here.2 in (
      c.finish.ensures.passes read.0.0 z read.0.1,
      subst
          (λ w. Fills (layered_signature c.args.layers) w (signature_view c.fill_elements-filled.new.signed)
          (stored c.fill_elements-filled.new.error c.fill_elements-filled.result)) (sym (array-is v here.0 here.1)) read.1,
    )

pub signature::fill_elements-returns-in_err-is_string-clause-fills : goal.signature::fill_elements-returns-in_err-is_string-clause-fills
signature::fill_elements-returns-in_err-is_string-clause-fills t c = λ vs z within.
    elements_refused c.args.layers vs (state c.begin_elements.new.input) z c.begin_elements.new.elements
    (option_map (λ b. b.items) c.begin_elements.new.kept) c.begin_elements.new.first_error _ c.from_residual.result c.begin_elements.new.error
    c.in_err-is_string.field-0.0 c.from_residual.ensures.1 (c.in_err-is_string.ensures.begins vs z within)

pub signature::fill_elements-returns-in_err-end_elements-clause-fills : goal.signature::fill_elements-returns-in_err-end_elements-clause-fills
signature::fill_elements-returns-in_err-end_elements-clause-fills t c = λ vs z within.
    let s = second_read vs (state c.begin_elements.new.input) (state c.fill_header-unprotected.new.input) z c.begin_elements.new.elements _ _ _ _
    (c.in_ok-is_string.ensures.begins vs z within) c.fill_header-unprotected.ensures.fills in
    last_refused c.args.layers vs (state c.fill_header-unprotected.new.input)
    (state c.end_elements.new.input) z c.begin_elements.new.elements c.end_elements.new.elements _ _ _ _ c.end_elements.new.signature.items _
    c.from_residual-in_err-end_elements.result c.end_elements.new.error c.in_err-end_elements.field-0.0 c.from_residual-in_err-end_elements.ensures.1 s
    (c.in_err-end_elements.ensures.ends s.others z s.within)

pub signature::fill_elements-returns-in_err-unprotected-clause-fills : goal.signature::fill_elements-returns-in_err-unprotected-clause-fills
signature::fill_elements-returns-in_err-unprotected-clause-fills t c = λ vs z within.
    let e = c.fill_header-unprotected.new.error in
    let s = second_read vs (state c.begin_elements.new.input) (state c.fill_header-unprotected.new.input) z c.begin_elements.new.elements _ _ _
    (λ v. UnlessMemory e ((layered_header c.args.layers).faults v))
    (c.in_ok-is_string.ensures.begins vs z within) c.in_err-unprotected.ensures.fills in
    unprotected_refused c.args.layers vs (state c.fill_header-unprotected.new.input)
    (state c.end_elements.new.input) z c.begin_elements.new.elements c.end_elements.new.elements _ _ _ c.end_elements.new.signature.items _
    c.from_residual-in_err-unprotected.result e c.end_elements.new.error c.in_err-unprotected.field-0.0 c.from_residual-in_err-unprotected.ensures.1
    c.in_ok-end_elements.ensures.kept s (c.in_ok-end_elements.ensures.ends s.others z s.within)

pub signature::fill_elements-returns-then-not-is_string-clause-fills : goal.signature::fill_elements-returns-then-not-is_string-clause-fills
signature::fill_elements-returns-then-not-is_string-clause-fills t c = λ vs z within.
    let read = rw c.if-not-is_string.true at c.in_ok-is_string.ensures in
    let o = option_map (λ b. b.items) c.begin_elements.new.kept in
    let P : Item → Type 0 = λ v. (layered_header c.args.layers).describes v (header_view c.fill_header-unprotected.new.header) in
    let s = second_read vs (state c.begin_elements.new.input)
    (state c.fill_header-unprotected.new.input) z c.begin_elements.new.elements o c.begin_elements.new.first_error false P
    (read.begins vs z within) c.in_ok-unprotected.ensures.fills in
    protected_refused c.args.layers vs (state c.fill_header-unprotected.new.input)
    (state c.end_elements.new.input) z c.begin_elements.new.elements c.end_elements.new.elements o c.begin_elements.new.first_error P
    c.end_elements.new.signature.items
    (signature_view c.args.signed.now) s
    (c.in_ok-end_elements.ensures.ends s.others z s.within)

pub signature::fill_elements-returns-clause-fills : goal.signature::fill_elements-returns-clause-fills
signature::fill_elements-returns-clause-fills t c = λ vs z within.
    let read = rw c.if-not-is_string.false at c.in_ok-is_string.ensures in
    let o = option_map (λ b. b.items) c.begin_elements.new.kept in
    let p = protected_view c.fill_protected.new.protected in
    let b = c.end_elements.new.signature.items in
    let r = stored c.fill_protected.new.error c.fill_protected.result in
    let view = signature-made _ ∙ (ap (λ g. record { protected = p; unprotected = header_view g.unprotected; signature = g.signature.items })
    (out-roll-CoseSignature _) ∙ ap (λ g. record { protected = p; unprotected = header_view g.unprotected; signature = b }) (out-roll-CoseSignature _)) in
    let x : SignatureView = record { protected = p; unprotected = header_view c.fill_header-unprotected.new.header; signature = b } in
    let s = second_read vs (state c.begin_elements.new.input)
    (state c.fill_header-unprotected.new.input) z c.begin_elements.new.elements o c.begin_elements.new.first_error true
    (λ v. (layered_header c.args.layers).describes v x.unprotected)
    (read.begins vs z within) c.in_ok-unprotected.ensures.fills in
    subst (λ y. ((left : Items) × AreWithin c.end_elements.new.elements left (state c.end_elements.new.input) z)
    × Fills (layered_signature c.args.layers) (array vs) y r) (sym view)
    (elements_filled c.args.layers vs (state c.fill_header-unprotected.new.input)
    (state c.end_elements.new.input) z c.begin_elements.new.elements c.end_elements.new.elements o c.begin_elements.new.first_error x r s
    (c.in_ok-end_elements.ensures.ends s.others z s.within)
    (λ d is. c.fill_protected.ensures d (ap (λ g. (protected_view g.protected).original) (out-roll-CoseSignature _)
    ∙ (ap (λ g. (protected_view g.protected).original) (out-roll-CoseSignature _)
    ∙ (ap (λ g. (protected_view g.protected).original) (out-roll-CoseSignature _) ∙ (ap (λ g. g.original) (protected-made _) ∙ is))))))

-- ---- how much of the input is left, and why the recursion ends

pub header::reading::fill_counter_signatures-returns-in_err-one-clause-shrinks : goal.header::reading::fill_counter_signatures-returns-in_err-one-clause-shrinks
header::reading::fill_counter_signatures-returns-in_err-one-clause-shrinks t c = c.in_err-one.ensures.shrinks

pub header::reading::fill_counter_signatures-fill_single_signature-filled-requires :
    goal.header::reading::fill_counter_signatures-fill_single_signature-filled-requires
header::reading::fill_counter_signatures-fill_single_signature-filled-requires t c = (omega (arith, c.in_ok-one.ensures.deeper, c.decreases), c.requires.empty)

pub header::reading::fill_counter_signatures-fill_signature_list-filled-requires :
    goal.header::reading::fill_counter_signatures-fill_signature_list-filled-requires
header::reading::fill_counter_signatures-fill_signature_list-filled-requires t c = (omega (arith, c.in_ok-one.ensures.deeper, c.decreases), c.requires.empty)

pub header::reading::fill_counter_signatures-returns-clause-shrinks : goal.header::reading::fill_counter_signatures-returns-clause-shrinks
header::reading::fill_counter_signatures-returns-clause-shrinks t c =
    elim c.if-one.branch [
      | header::reading::fill_counter_signatures-then-one w ↦
          let last = rw w.input-is at c.finish.ensures.shrinks in
          omega (arith, c.in_ok-one.ensures.shrinks, w.fill_single_signature-filled.ensures.shrinks, last)
      | header::reading::fill_counter_signatures-else-one w ↦
          let last = rw w.input-is at c.finish.ensures.shrinks in
          omega (arith, c.in_ok-one.ensures.shrinks, w.fill_signature_list-filled.ensures.shrinks, last)
    ]

pub header::reading::fill_header-returns-in_err-begin_pairs-clause-shrinks : goal.header::reading::fill_header-returns-in_err-begin_pairs-clause-shrinks
header::reading::fill_header-returns-in_err-begin_pairs-clause-shrinks t c = c.in_err-begin_pairs.ensures.shrinks

pub header::reading::fill_header-returns-in_err-begin_pairs-clause-strictly : goal.header::reading::fill_header-returns-in_err-begin_pairs-clause-strictly
header::reading::fill_header-returns-in_err-begin_pairs-clause-strictly t c =
    no_success c.from_residual.result c.in_err-begin_pairs.field-0.0 _ c.from_residual.ensures.1

pub header::reading::fill_header-fill_pairs-filled-requires : goal.header::reading::fill_header-fill_pairs-filled-requires
header::reading::fill_header-fill_pairs-filled-requires t c = (omega (arith, c.in_ok-begin_pairs.ensures.deeper, c.decreases), c.requires.empty)

pub signature::fill_signature-returns-in_err-begin_items-clause-shrinks : goal.signature::fill_signature-returns-in_err-begin_items-clause-shrinks
signature::fill_signature-returns-in_err-begin_items-clause-shrinks t c = c.in_err-begin_items.ensures.shrinks

pub signature::fill_signature-returns-in_err-begin_items-clause-strictly : goal.signature::fill_signature-returns-in_err-begin_items-clause-strictly
signature::fill_signature-returns-in_err-begin_items-clause-strictly t c =
    no_success c.from_residual.result c.in_err-begin_items.field-0.0 _ c.from_residual.ensures.1

pub signature::fill_signature-fill_elements-filled-requires : goal.signature::fill_signature-fill_elements-filled-requires
signature::fill_signature-fill_elements-filled-requires t c = (omega (arith, c.in_ok-begin_items.ensures.deeper, c.decreases), c.requires.empty)

pub signature::fill_signature-returns-clause-shrinks : goal.signature::fill_signature-returns-clause-shrinks
signature::fill_signature-returns-clause-shrinks t c =
    omega (arith, c.in_ok-begin_items.ensures.shrinks, c.fill_elements-filled.ensures.shrinks, c.finish.ensures.shrinks)

pub signature::fill_signature-returns-clause-strictly : goal.signature::fill_signature-returns-clause-strictly
signature::fill_signature-returns-clause-strictly t c =
    moves_on c.fill_elements-filled.result _ _ _ c.in_ok-begin_items.ensures.strictly
    (omega (arith, c.fill_elements-filled.ensures.shrinks, c.finish.ensures.shrinks))

pub header::reading::fill_pairs-returns-in_err-version-clause-shrinks : goal.header::reading::fill_pairs-returns-in_err-version-clause-shrinks
header::reading::fill_pairs-returns-in_err-version-clause-shrinks t c = omega (arith, c.fill_fields.ensures.shrinks, c.loop-version.invariant.shrinks)

pub header::reading::fill_pairs-returns-then-has_signatures_of-clause-shrinks : goal.header::reading::fill_pairs-returns-then-has_signatures_of-clause-shrinks
header::reading::fill_pairs-returns-then-has_signatures_of-clause-shrinks t c =
    omega (arith, c.reject_second_value.ensures.shrinks, c.fill_fields.ensures.shrinks, c.loop-version.invariant.shrinks)

pub header::reading::fill_pairs-returns-in-Err-clause-shrinks : goal.header::reading::fill_pairs-returns-in-Err-clause-shrinks
header::reading::fill_pairs-returns-in-Err-clause-shrinks t c =
    omega (arith, c.fill_counter_signatures.ensures.shrinks, c.fill_fields.ensures.shrinks, c.loop-version.invariant.shrinks)

pub header::reading::fill_pairs-returns-in_err-keep_signatures-clause-shrinks : goal.header::reading::fill_pairs-returns-in_err-keep_signatures-clause-shrinks
header::reading::fill_pairs-returns-in_err-keep_signatures-clause-shrinks t c =
    omega (arith, c.fill_counter_signatures.ensures.shrinks, c.fill_fields.ensures.shrinks, c.loop-version.invariant.shrinks)

pub header::reading::fill_pairs-returns-clause-shrinks : goal.header::reading::fill_pairs-returns-clause-shrinks
header::reading::fill_pairs-returns-clause-shrinks t c = omega (arith, c.fill_fields.ensures.shrinks, c.loop-version.invariant.shrinks)

pub signature::fill_elements-returns-in_err-is_string-clause-shrinks : goal.signature::fill_elements-returns-in_err-is_string-clause-shrinks
signature::fill_elements-returns-in_err-is_string-clause-shrinks t c = c.begin_elements.ensures.shrinks

pub signature::fill_elements-returns-in_err-end_elements-clause-shrinks : goal.signature::fill_elements-returns-in_err-end_elements-clause-shrinks
signature::fill_elements-returns-in_err-end_elements-clause-shrinks t c =
    omega (arith, c.begin_elements.ensures.shrinks, c.fill_header-unprotected.ensures.shrinks, c.end_elements.ensures.shrinks)

pub signature::fill_elements-returns-in_err-unprotected-clause-shrinks : goal.signature::fill_elements-returns-in_err-unprotected-clause-shrinks
signature::fill_elements-returns-in_err-unprotected-clause-shrinks t c =
    omega (arith, c.begin_elements.ensures.shrinks, c.fill_header-unprotected.ensures.shrinks, c.end_elements.ensures.shrinks)

pub signature::fill_elements-returns-then-not-is_string-clause-shrinks : goal.signature::fill_elements-returns-then-not-is_string-clause-shrinks
signature::fill_elements-returns-then-not-is_string-clause-shrinks t c =
    omega (arith, c.begin_elements.ensures.shrinks, c.fill_header-unprotected.ensures.shrinks, c.end_elements.ensures.shrinks)

pub signature::fill_elements-returns-clause-shrinks : goal.signature::fill_elements-returns-clause-shrinks
signature::fill_elements-returns-clause-shrinks t c =
    omega (arith, c.begin_elements.ensures.shrinks, c.fill_header-unprotected.ensures.shrinks, c.end_elements.ensures.shrinks)

pub signature::fill_signature_list-returns-in_err-next_place-clause-shrinks : goal.signature::fill_signature_list-returns-in_err-next_place-clause-shrinks
signature::fill_signature_list-returns-in_err-next_place-clause-shrinks t c = omega (arith, c.next_place.ensures.shrinks, c.loop-all.invariant.shrinks)

pub signature::fill_signature_list-returns-in_err-fill_signature-clause-shrinks :
    goal.signature::fill_signature_list-returns-in_err-fill_signature-clause-shrinks
signature::fill_signature_list-returns-in_err-fill_signature-clause-shrinks t c =
    omega (arith, c.fill_signature.ensures.shrinks, c.next_place.ensures.shrinks, c.loop-all.invariant.shrinks)

pub signature::fill_signature_list-returns-clause-shrinks : goal.signature::fill_signature_list-returns-clause-shrinks
signature::fill_signature_list-returns-clause-shrinks t c = omega (arith, c.next_place.ensures.shrinks, c.loop-all.invariant.shrinks)

pub signature::fill_single_signature-returns-clause-shrinks : goal.signature::fill_single_signature-returns-clause-shrinks
signature::fill_single_signature-returns-clause-shrinks t c = c.fill_elements.ensures.shrinks
