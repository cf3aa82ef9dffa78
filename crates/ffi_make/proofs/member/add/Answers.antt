use Rattle.std.proofs.Common.{◌≡◌, ◌∙◌, ap, inl, option_map, subst}
use Rattle.coset.specs.Item.{array, no_items}
use Rattle.coset.specs.View.{value_items, value_item}
use Rattle.coset_value.specs.declared.value.Value.{Array}
use Rattle.coset_cbor.proofs.Kept.{value_item-Array}
use Rattle.ffi_make.specs.Given.{IsAny}
use Rattle.ffi_make.specs.Members.{with_member, within_tag}
use Rattle.ffi_make.proofs.Making.{made_written}
use Rattle.ffi_make.proofs.member.add.Goals as goal

pub returns-in-Ok-value_in : goal.returns-in-Ok-value_in
returns-in-Ok-value_in c =
    let k = c.args.kind in
    let v = value_item c.in-Ok.value in
    let m = value_item c.in-Ok-value_in.member in
    let o = within_tag (with_member k m) v in
    let none : value_item (Array c.new.result) ≡ array no_items = value_item-Array c.new.result ∙ ap (λ vs. array (value_items vs)) c.new.ensures.items in
    inl (
      (v, m),
      (subst (λ w. IsAny w c.args.bytes.now v) none c.in-Ok.ensures, c.in-Ok-value_in.ensures.0),
      made_written k (option_map value_item) o c.args.out.now c.write_made.new.out c.within_tag.result c.write_made.result c.within_tag.ensures.value
          c.within_tag.ensures.memory c.write_made.ensures,
    )
