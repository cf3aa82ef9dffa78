use Rattle.std.proofs.Common.{Some, true, map, refl}
use Rattle.std.specs.Ordering.{int_eq}
use Rattle.std.specs.Prelude.{is_some}
use Rattle.coset_value.specs.Item.{integer}
use Rattle.coset_value.specs.View.{value_item}
use Rattle.coset_codec.specs.RestLaws.{as_view, repeated-view, distinct-view, no-entries}
use Rattle.coset_codec.specs.Shape.{bstr, int64, present_image}
use Rattle.coset_codec.proofs.EncodingMaps.{no-field, field-put, optional-put, map-written}
use Rattle.example_types.specs.Settings.{name_view, names}
use Rattle.example_types.proofs.settings.SettingsCodec.write.Goals as goal

pub returns-then-branch-clause-written : goal.returns-then-branch-clause-written
returns-then-branch-clause-written c =
    let rest = map (as_view name_view value_item) c.args.self.now.rest.items in
    λ _. (
      refl,
      no-entries names rest _ (repeated-view name_view value_item _ int_eq (λ x y. refl) c.in_ok-has_repeats.field-0 c.args.self.now.rest.items
          (rw c.deref.ensures.value at c.in_ok-has_repeats.ensures.answer) c.if-branch.true),
    )

pub returns-clause-written : goal.returns-clause-written
returns-clause-written c =
    let s = c.args.self.now in
    let distinct = distinct-view name_view value_item _ int_eq (λ x y. refl) c.in_ok-has_repeats.field-0 s.rest.items
    (rw c.deref.ensures.value at c.in_ok-has_repeats.ensures.answer) c.if-branch.false in
    map-written names name_view value_item s.rest.items _ _ _ _ c.write_rest.result distinct
    (rw (c.deref-2.ensures.value, c.is_some.ensures, c.is_some-2.ensures) at c.in_ok-write_pairs_head.ensures.fits)
    (rw (c.deref-2.ensures.value, c.is_some.ensures, c.is_some-2.ensures) at c.in_ok-write_pairs_head.ensures.ok)
    (field-put names.shape.image true (Some (integer s.level)) refl c.in_ok-write_field.ensures.ok
    (optional-put names.shape.image (λ b. b.items) bstr.image s.name refl c.in_ok-write_optional.ensures.ok
    (field-put names.shape.image (is_some s.limit) (present_image int64.image s.limit) refl c.in_ok-write_optional-2.ensures.ok
    (no-field names.shape.image c.write_optional-2.new.out.items))))
    (rw c.deref-3.ensures.value at c.write_rest.ensures.ok) (rw c.deref-3.ensures.value at c.write_rest.ensures.refused)
