use Rattle.std.proofs.Common.{◌≡◌, ℤ, Some, ap, not, sym, ◌∙◌, subst, rules, option_map, to_z, of_z, w64}
use Rattle.std.specs.Prelude.{OnOk}
use Rattle.coset_value.specs.Item.{array}
use Rattle.coset_iana.specs.HeaderParameter as parameters
use Rattle.coset_iana.specs.declared.headers.HeaderParameter.TheVariants.{Crit}
use Rattle.coset_codec.specs.Encoding.{AppendsField}
use Rattle.coset_codec.specs.Maps.{field_shape_image}
use Rattle.coset_codec.specs.Shape.{images}
use Rattle.coset_codec.proofs.Encoding.{images-mapped}
use Rattle.coset_codec.proofs.EncodingMaps.{filled-view, left-out}
use Rattle.coset_label.proofs.Memory.{never_none}
use Rattle.coset_core.specs.Fields.{critical}
use Rattle.coset_core.specs.Views.{critical_view}
use Rattle.coset_core.proofs.WritingHeaders.{critical-has, list-has}
use Rattle.coset_core.proofs.header.writing.write_critical.Goals as goal

pub returns-then-is_empty-clause-ok : goal.returns-then-is_empty-clause-ok
returns-then-is_empty-clause-ok c =
    left-out (parameters.number Crit) c.args.out.now.items _ _
    (filled-view critical_view c.args.crit.now c.is_empty.result (search rules) ∙ ap not c.if-is_empty.true)

pub returns-clause-ok : goal.returns-clause-ok
unfolding critical
returns-clause-ok c =
    let back : to_z w64 (of_z w64 c.to_i64.result) ≡ c.to_i64.result = search rules in
    let told = filled-view critical_view c.args.crit.now c.is_empty.result (search rules) ∙ ap not c.if-is_empty.false in
    subst (λ o. OnOk c.write_field.result (AppendsField (parameters.number Crit) o c.args.out.now.items c.write_field.new.out.items))
    (sym (λ i. field_shape_image (told i) (option_map array (sym (images-mapped critical.image critical_view c.args.crit.now) i))))
    (subst (λ (l : ℤ). OnOk c.write_field.result (AppendsField l
    (option_map Some (option_map array (images (λ x. critical.image (critical_view x)) c.args.crit.now))) c.args.out.now.items c.write_field.new.out.items))
    (back ∙ c.to_i64.ensures) c.write_field.ensures.ok)

pub returns-clause-memory : goal.returns-clause-memory
unfolding critical
returns-clause-memory c = never_none c.write_field.result _
    (list-has (λ x. critical.image (critical_view x)) (λ x. critical-has (critical_view x)) c.args.crit.now) c.write_field.ensures.refused
