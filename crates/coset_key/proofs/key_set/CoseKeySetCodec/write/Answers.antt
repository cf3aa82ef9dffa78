use Rattle.std.proofs.Common.{◌∙◌, ap, option_map, subst}
use Rattle.coset_value.specs.Item.{array}
use Rattle.coset_codec.specs.Encoding.{Encodes}
use Rattle.coset_codec.specs.Shape.{images}
use Rattle.coset_codec.proofs.Encoding.{images-mapped}
use Rattle.coset_key.specs.Keys.{key, key_view}
use Rattle.coset_key.proofs.key_set.CoseKeySetCodec.write.Goals as goal

pub returns-clause-written : goal.returns-clause-written
returns-clause-written c =
    subst (λ o. Encodes (option_map array o) c.args.out.now.items c.append.new.out.items c.append.result)
    (ap (images (λ x. key.image (key_view x))) c.deref.ensures.value ∙ images-mapped key.image key_view c.args.self.now.0.items) c.append.ensures.written
