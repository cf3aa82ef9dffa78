use Rattle.std.proofs.Common.{◌≡◌, ◌∙◌, ap, inl, subst}
use Rattle.coset.specs.Item.{dict, no_pairs}
use Rattle.coset.specs.View.{value_pairs, value_item}
use Rattle.coset_value.specs.declared.value.Value.{Map}
use Rattle.coset_cbor.proofs.Kept.{value_item-Map}
use Rattle.ffi_make.specs.Given.{IsAny}
use Rattle.ffi_make.specs.LabelsMade.{MakesMap}
use Rattle.ffi_make.proofs.pairs.put_all.Goals as goal

pub returns-in-Ok-with_all : goal.returns-in-Ok-with_all
returns-in-Ok-with_all c =
    let m = value_item c.in-Ok.map in
    let made = c.in-Ok-with_all.ensures in
    let none : value_item (Map c.new.result) ≡ dict no_pairs = value_item-Map c.new.result ∙ ap (λ ps. dict (value_pairs ps)) c.new.ensures.items in
    inl (
      (m, made.0),
      (subst (λ w. IsAny w c.args.map.now m) none c.in-Ok.ensures, made.1),
      subst (λ o. MakesMap c.args.kind o c.args.out.now c.write_map.new.out c.write_map.result) made.2 c.write_map.ensures,
    )
