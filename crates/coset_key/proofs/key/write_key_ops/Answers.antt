use Rattle.std.proofs.Common.{◌≡◌, ℤ, Some, option_map, map, not, pos, sym, ap, ◌∙◌, subst, OnOk, rules, to_z, of_z, w64}
use Rattle.coset_codec.specs.Encoding.{AppendsField}
use Rattle.coset_codec.specs.Shape.{list_of}
use Rattle.coset_codec.proofs.EncodingMaps.{left-out}
use Rattle.coset_label.proofs.Memory.{refused_memory}
use Rattle.coset_key.specs.Keys.{operation, operation_view}
use Rattle.coset_key.proofs.Writing.{set-there, key_ops_image, key_ops_list}
use Rattle.coset_key.proofs.key.write_key_ops.Goals as goal

pub returns-then-is_empty-clause-ok : goal.returns-then-is_empty-clause-ok
returns-then-is_empty-clause-ok c =
    left-out (pos 4) c.args.out.now.items _ _ (set-there operation_view c.args.operations.now.keys c.is_empty.result c.is_empty.ensures.0 c.is_empty.ensures.1
    ∙ ap not c.if-is_empty.true)

pub returns-clause-ok : goal.returns-clause-ok
returns-clause-ok c =
    let ns = map operation_view c.args.operations.now.keys in
    let back : to_z w64 (of_z w64 c.to_i64.result) ≡ c.to_i64.result = search rules in
    let filled = set-there operation_view c.args.operations.now.keys c.is_empty.result c.is_empty.ensures.0 c.is_empty.ensures.1 ∙ ap not c.if-is_empty.false in
    subst (λ o. OnOk c.write_field.result (AppendsField (pos 4) o c.args.out.now.items c.write_field.new.out.items)) (sym (key_ops_list ns filled))
    (subst (λ (l : ℤ). OnOk c.write_field.result (AppendsField l
    (option_map Some ((list_of operation).image ns)) c.args.out.now.items c.write_field.new.out.items)) (back ∙ c.to_i64.ensures) c.write_field.ensures.ok)

pub returns-clause-memory : goal.returns-clause-memory
returns-clause-memory c =
    let v = key_ops_image (map operation_view c.args.operations.now.keys) in
    refused_memory c.write_field.result _ v.0 v.1 c.write_field.ensures.refused
