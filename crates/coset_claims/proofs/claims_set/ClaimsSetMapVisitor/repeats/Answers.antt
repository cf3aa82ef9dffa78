use Rattle.std.proofs.Common.{refl}
use Rattle.coset_value.specs.View.{value_item}
use Rattle.coset_codec.specs.RestLaws.{if_ok, repeats-view}
use Rattle.coset_claims.specs.Claims.{name_view, same_label}
use Rattle.coset_claims.proofs.claims_set.ClaimsSetMapVisitor.repeats.Goals as goal

pub returns-clause-repeats : goal.returns-clause-repeats
returns-clause-repeats c =
    if_ok c.has_repeats.result _ _ (λ b h. repeats-view name_view value_item _ same_label (λ x y. refl) b c.args.self.now.rest.items h)
    (rw c.deref.ensures.value at c.has_repeats.ensures.answer)
