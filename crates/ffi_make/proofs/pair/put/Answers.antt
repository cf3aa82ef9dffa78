use Rattle.std.proofs.Common.{◌≡◌, ◌∙◌, ap, inl, option_map, subst}
use Rattle.coset.specs.Item.{dict, no_pairs}
use Rattle.coset.specs.View.{value_pairs, value_item}
use Rattle.coset_value.specs.declared.value.Value.{Map}
use Rattle.coset_cbor.proofs.Kept.{value_item-Map}
use Rattle.ffi_make.specs.Given.{IsAny}
use Rattle.ffi_make.specs.PairsMade.{with_pair}
use Rattle.ffi_make.proofs.Making.{map_written}
use Rattle.ffi_make.proofs.pair.put.Goals as goal

pub returns-in-Ok-entry_value : goal.returns-in-Ok-entry_value
returns-in-Ok-entry_value c =
    let k = c.args.kind in
    let m = value_item c.in-Ok.map in
    let key = value_item c.in-Ok-key_value.key in
    let v = value_item c.in-Ok-entry_value.value in
    let none : value_item (Map c.new.result) ≡ dict no_pairs = value_item-Map c.new.result ∙ ap (λ ps. dict (value_pairs ps)) c.new.ensures.items in
    inl (
      (m, (key, v)),
      (subst (λ w. IsAny w c.args.map.now m) none c.in-Ok.ensures, (c.in-Ok-key_value.ensures, c.in-Ok-entry_value.ensures)),
      map_written k (option_map value_item) (with_pair key v m) c.args.out.now c.write_map.new.out c.with_pair.result c.write_map.result
          c.with_pair.ensures.value c.with_pair.ensures.memory c.write_map.ensures,
    )
