use Rattle.std.proofs.Common.{refl}
use Rattle.std.specs.Ordering.{int_eq}
use Rattle.coset_value.specs.View.{value_item}
use Rattle.coset_codec.specs.RestLaws.{if_ok, repeats-view}
use Rattle.example_types.specs.Settings.{name_view}
use Rattle.example_types.proofs.settings.PartialSettingsMapVisitor.repeats.Goals as goal

pub returns-clause-repeats : goal.returns-clause-repeats
returns-clause-repeats c =
    if_ok c.has_repeats.result _ _ (λ b h. repeats-view name_view value_item _ int_eq (λ x y. refl) b c.args.self.now.rest.items h)
    (rw c.deref.ensures.value at c.has_repeats.ensures.answer)
