use Rattle.std.proofs.Common.{◌≡◌, ◌∙◌, ap, inl, option_map, subst}
use Rattle.std.specs.Option.{option_copied}
use Rattle.coset.specs.Item.{dict, no_pairs}
use Rattle.coset.specs.View.{value_pairs, value_item}
use Rattle.coset_value.specs.declared.value.Value.{Map}
use Rattle.coset_cbor.proofs.Kept.{value_item-Map}
use Rattle.ffi_make.specs.Given.{IsAny}
use Rattle.ffi_make.specs.Messages.{message}
use Rattle.ffi_make.proofs.Making.{made_written}
use Rattle.ffi_make.proofs.message.make.Goals as goal

pub returns-in-Ok : goal.returns-in-Ok
returns-in-Ok c =
    let k = c.args.kind in
    let u = value_item c.in-Ok.unprotected in
    let o = message k c.args.protected.now u (option_copied c.args.content) c.args.proof.now in
    let none : value_item (Map c.new.result) ≡ dict no_pairs = value_item-Map c.new.result ∙ ap (λ ps. dict (value_pairs ps)) c.new.ensures.items in
    inl (
      u,
      subst (λ w. IsAny w c.args.unprotected.now u) none c.in-Ok.ensures,
      made_written k (option_map value_item) o c.args.out.now c.write_made.new.out c.message.result c.write_made.result
          c.message.ensures.value c.message.ensures.memory c.write_made.ensures,
    )
