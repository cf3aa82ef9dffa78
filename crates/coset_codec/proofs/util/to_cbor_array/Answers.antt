use Rattle.std.proofs.Common.{◌++◌, ◌∷◌, [], ◌∙◌, Some, option_map, ap, refl, sym}
use Rattle.coset_value.specs.Item.{array}
use Rattle.coset_value.specs.View.{value_items}
use Rattle.coset_codec.proofs.Lists.{with-more, images-all, on_err, yields-more, value_item-Array}
use Rattle.coset_codec.proofs.util.to_cbor_array.Goals as goal

pub returns-in_err-to_cbor_value-clause-refused : goal.returns-in_err-to_cbor_value-clause-refused
returns-in_err-to_cbor_value-clause-refused g c =
    on_err c.from_residual.result c.in_err-to_cbor_value.field-0.0 _ c.from_residual.ensures.1
    (λ n.
    let h = c.in_err-to_cbor_value.ensures n in (
      h.0,
      c.into_iter-x-iterator.result,
      c.loop-x.yielded ++ c.in-Some.x ∷ [],
      c.next.new.self,
      c.into_iter-x-iterator.ensures.into_iter_gives,
      yields-more g.C.IntoIter.Iterator.next_gives c.into_iter-x-iterator.result c.loop-x.x-iterator c.next.new.self c.loop-x.yielded c.in-Some.x
          c.loop-x.yielded_by c.in-Some.ensures.steps,
      record {
        before = c.loop-x.yielded;
        last = c.in-Some.x;
        parts = refl;
        written = value_items c.loop-x.elements.items;
        images_before = images-all _ c.loop-x.yielded c.loop-x.elements.items c.loop-x.invariant;
        no_image = h.1;
      },
    ))

pub loop-x-preserved : goal.loop-x-preserved
loop-x-preserved g c = rw c.in_ok-push.ensures.items (with-more _ _ _ _ _ c.loop-x.invariant c.in_ok-to_cbor_value.ensures)

pub returns-clause-images : goal.returns-clause-images
returns-clause-images g c =
    let made = images-all _ c.loop-x.yielded c.loop-x.elements.items c.loop-x.invariant in (
      c.into_iter-x-iterator.result,
      c.loop-x.yielded,
      c.into_iter-x-iterator.ensures.into_iter_gives,
      (c.next.new.self, (c.loop-x.x-iterator, c.loop-x.yielded_by, c.in-None.ensures.steps)),
      ap (option_map array) made ∙ ap Some (sym (value_item-Array c.loop-x.elements)),
    )
