use Rattle.std.proofs.Common.{◌≡◌, ℤ, Some, subst, rules, to_z, of_z, w64}
use Rattle.coset_value.specs.Item.{integer}
use Rattle.coset_codec.specs.Encoding.{AppendsImage}
use Rattle.coset_codec.proofs.EncodingMaps.{item-is, field-written}
use Rattle.coset_codec.proofs.write.map.write_field.Goals as goal

pub returns-clause-ok : goal.returns-clause-ok
returns-clause-ok g c =
    let same : to_z w64 (of_z w64 c.args.label) ≡ c.args.label = search rules in
    let key = subst (λ (n : ℤ). AppendsImage (Some (integer n)) c.args.out.now.items c.encode.new.out.items) same c.in_ok-encode.ensures.written in
    field-written c.append.result c.args.label _ _ (item-is key) c.append.ensures.written
