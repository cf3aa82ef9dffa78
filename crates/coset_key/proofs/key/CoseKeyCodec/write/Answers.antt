use Rattle.std.proofs.Common.{◌≡◌, ℤ, Some, true, map, refl, sym, ◌∙◌, ap, rules}
use Rattle.coset_value.specs.Item.{integer}
use Rattle.coset_value.specs.View.{value_item}
use Rattle.coset_codec.specs.RestLaws.{as_view, repeated-view, distinct-view, no-entries}
use Rattle.coset_codec.specs.Shape.{nonempty_bstr}
use Rattle.coset_codec.proofs.Encoding.{passes, extends-on}
use Rattle.coset_codec.proofs.EncodingMaps.{no-field, field-put, optional-put, listed-put, optional-has, filled-there, map-written}
use Rattle.coset_label.specs.LabelData.{number, same_label}
use Rattle.coset_label.specs.Views.{label_view, algorithm_view}
use Rattle.coset_label.specs.Labels.{algorithm, cose_labels}
use Rattle.coset_key.specs.Keys.{key, key_type, key_ops, kty_view, operation_view}
use Rattle.coset_key.proofs.Writing.{algorithm-has, set-there}
use Rattle.coset_key.proofs.key.CoseKeyCodec.write.Goals as goal

pub returns-then-branch-clause-written : goal.returns-then-branch-clause-written
unfolding key
returns-then-branch-clause-written c =
    let params = map (as_view label_view value_item) c.args.self.now.params.items in
    λ _. (
      refl,
      no-entries cose_labels params _ (repeated-view label_view value_item _ same_label (λ x y. refl) c.in_ok-has_repeats.field-0 c.args.self.now.params.items
          (rw c.deref.ensures.value at c.in_ok-has_repeats.ensures.answer) c.if-branch.true),
    )

pub returns-in_err-write_optional-clause-written : goal.returns-in_err-write_optional-clause-written
unfolding algorithm
returns-in_err-write_optional-clause-written c =
    passes c.from_residual-in_err-write_optional.result _ _ c.from_residual-in_err-write_optional.ensures.1 c.in_err-write_optional.ensures.refused
    (λ e. absurd (optional-has (λ l. algorithm.image (algorithm_view l)) (λ l. algorithm-has (algorithm_view l)) c.args.self.now.alg e))

pub returns-clause-written : goal.returns-clause-written
unfolding key key_type algorithm
returns-clause-written c =
    let k = c.args.self.now in
    let distinct = distinct-view label_view value_item _ same_label (λ x y. refl) c.in_ok-has_repeats.field-0 k.params.items
    (rw c.deref.ensures.value at c.in_ok-has_repeats.ensures.answer) c.if-branch.false in
    let f = cose_labels.shape.image in
    let named : (i j : ℤ) → i ≡ j → f (number j) ≡ Some (integer i) = λ i j e. ap (λ k. Some (integer k)) (sym e) in
    map-written cose_labels label_view value_item k.params.items _ _ _ _ c.write_rest.result distinct
    (rw (c.deref-2.ensures.value, c.is_some.ensures) at c.in_ok-write_pairs_head.ensures.fits)
    (rw (c.deref-2.ensures.value, c.is_some.ensures) at c.in_ok-write_pairs_head.ensures.ok)
    (field-put f true (key_type.image (kty_view k.kty)) (named _ _ ((search rules) ∙ c.to_i64.ensures)) c.in_ok-write_field.ensures.ok
    (listed-put f nonempty_bstr.image k.key_id.items _ (filled-there k.key_id.items c.is_empty.result (search rules))
    (named _ _ ((search rules) ∙ c.to_i64-2.ensures)) c.in_ok-write_nonempty.ensures.ok
    (optional-put f algorithm_view algorithm.image k.alg (named _ _ ((search rules) ∙ c.to_i64-3.ensures)) c.in_ok-write_optional.ensures.ok
    (listed-put f key_ops.image (map operation_view k.key_ops.keys) _
    (set-there operation_view k.key_ops.keys c.is_empty-2.result c.is_empty-2.ensures.0 c.is_empty-2.ensures.1) refl c.in_ok-write_key_ops.ensures.ok
    (listed-put f nonempty_bstr.image k.base_iv.items _ (filled-there k.base_iv.items c.is_empty-3.result (search rules))
    (named _ _ ((search rules) ∙ c.to_i64-4.ensures)) c.in_ok-write_nonempty-2.ensures.ok
    (no-field f c.write_nonempty-2.new.out.items))))))
    (rw c.deref-3.ensures.value at c.write_rest.ensures.ok) (rw c.deref-3.ensures.value at c.write_rest.ensures.refused)

pub returns-in_err-write_field-clause-kept : goal.returns-in_err-write_field-clause-kept
returns-in_err-write_field-clause-kept c =
    extends-on c.args.out.now.items c.write_pairs_head.new.out.items c.write_field.new.out.items c.write_pairs_head.ensures.kept c.write_field.ensures.kept

pub returns-in_err-write_nonempty-clause-kept : goal.returns-in_err-write_nonempty-clause-kept
returns-in_err-write_nonempty-clause-kept c =
    let new = c.write_nonempty.new.out.items in
    extends-on c.args.out.now.items c.write_pairs_head.new.out.items new c.write_pairs_head.ensures.kept
    (extends-on c.write_pairs_head.new.out.items c.write_field.new.out.items new c.write_field.ensures.kept c.write_nonempty.ensures.kept)

pub returns-in_err-write_optional-clause-kept : goal.returns-in_err-write_optional-clause-kept
returns-in_err-write_optional-clause-kept c =
    let new = c.write_optional.new.out.items in
    extends-on c.args.out.now.items c.write_pairs_head.new.out.items new c.write_pairs_head.ensures.kept
    (extends-on c.write_pairs_head.new.out.items c.write_field.new.out.items new c.write_field.ensures.kept
    (extends-on c.write_field.new.out.items c.write_nonempty.new.out.items new c.write_nonempty.ensures.kept c.write_optional.ensures.kept))

pub returns-in_err-write_key_ops-clause-kept : goal.returns-in_err-write_key_ops-clause-kept
returns-in_err-write_key_ops-clause-kept c =
    let new = c.write_key_ops.new.out.items in
    extends-on c.args.out.now.items c.write_pairs_head.new.out.items new c.write_pairs_head.ensures.kept
    (extends-on c.write_pairs_head.new.out.items c.write_field.new.out.items new c.write_field.ensures.kept
    (extends-on c.write_field.new.out.items c.write_nonempty.new.out.items new c.write_nonempty.ensures.kept
    (extends-on c.write_nonempty.new.out.items c.write_optional.new.out.items new c.write_optional.ensures.kept c.write_key_ops.ensures.kept)))

pub returns-in_err-write_nonempty-2-clause-kept : goal.returns-in_err-write_nonempty-2-clause-kept
returns-in_err-write_nonempty-2-clause-kept c =
    let new = c.write_nonempty-2.new.out.items in
    extends-on c.args.out.now.items c.write_pairs_head.new.out.items new c.write_pairs_head.ensures.kept
    (extends-on c.write_pairs_head.new.out.items c.write_field.new.out.items new c.write_field.ensures.kept
    (extends-on c.write_field.new.out.items c.write_nonempty.new.out.items new c.write_nonempty.ensures.kept
    (extends-on c.write_nonempty.new.out.items c.write_optional.new.out.items new c.write_optional.ensures.kept
    (extends-on c.write_optional.new.out.items c.write_key_ops.new.out.items new c.write_key_ops.ensures.kept c.write_nonempty-2.ensures.kept))))

pub returns-clause-kept : goal.returns-clause-kept
returns-clause-kept c =
    let new = c.write_rest.new.out.items in
    extends-on c.args.out.now.items c.write_pairs_head.new.out.items new c.write_pairs_head.ensures.kept
    (extends-on c.write_pairs_head.new.out.items c.write_field.new.out.items new c.write_field.ensures.kept
    (extends-on c.write_field.new.out.items c.write_nonempty.new.out.items new c.write_nonempty.ensures.kept
    (extends-on c.write_nonempty.new.out.items c.write_optional.new.out.items new c.write_optional.ensures.kept
    (extends-on c.write_optional.new.out.items c.write_key_ops.new.out.items new c.write_key_ops.ensures.kept
    (extends-on c.write_key_ops.new.out.items c.write_nonempty-2.new.out.items new c.write_nonempty-2.ensures.kept c.write_rest.ensures.kept)))))
