use Rattle.std.proofs.Common.{refl}
use Rattle.coset_value.specs.View.{value_item}
use Rattle.coset_codec.specs.RestLaws.{if_ok, repeats-view}
use Rattle.coset_label.specs.Views.{label_view}
use Rattle.coset_label.specs.LabelData.{same_label}
use Rattle.coset_key.proofs.key.PartialKeyMapVisitor.repeats.Goals as goal

pub returns-clause-repeats : goal.returns-clause-repeats
returns-clause-repeats c =
    if_ok c.has_repeats.result _ _ (λ b h. repeats-view label_view value_item _ same_label (λ x y. refl) b c.args.self.now.params.items h)
    (rw c.deref.ensures.value at c.has_repeats.ensures.answer)
