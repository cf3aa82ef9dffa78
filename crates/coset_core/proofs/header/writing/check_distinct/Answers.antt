use Rattle.std.proofs.Common.{refl}
use Rattle.coset_value.specs.View.{value_item}
use Rattle.coset_codec.specs.RestLaws.{repeated-view, distinct-view}
use Rattle.coset_label.specs.Views.{label_view}
use Rattle.coset_label.specs.LabelData.{same_label}
use Rattle.coset_core.proofs.header.writing.check_distinct.Goals as goal

pub returns-then-branch-clause-refused : goal.returns-then-branch-clause-refused
returns-then-branch-clause-refused c =
    λ _. (
      refl,
      repeated-view label_view value_item _ same_label
          (λ x y. refl) c.in_ok-has_repeats.field-0 c.args.rest.now c.in_ok-has_repeats.ensures.answer c.if-branch.true,
    )

pub returns-clause-ok : goal.returns-clause-ok
returns-clause-ok c = distinct-view label_view value_item _ same_label
    (λ x y. refl) c.in_ok-has_repeats.field-0 c.args.rest.now c.in_ok-has_repeats.ensures.answer c.if-branch.false
