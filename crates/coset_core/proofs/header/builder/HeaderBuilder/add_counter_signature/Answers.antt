use Rattle.std.proofs.Common.{refl, ap, ◌∙◌}
use Rattle.coset_core.proofs.Building.{counter_signature-added}
use Rattle.coset_core.specs.Built.{push_counter_signature}
use Rattle.coset_core.specs.Views.{header_view, signature_view}
use Rattle.coset_core.proofs.header.builder.HeaderBuilder.add_counter_signature.Goals as goal

pub returns-clause-ok : goal.returns-clause-ok
returns-clause-ok c =
    counter_signature-added c.self.inside.0 _ c.args.signature refl c.in_ok-push.ensures.items refl
    ∙ ap (λ h. push_counter_signature (signature_view c.args.signature) (header_view h)) c.self.view_is
