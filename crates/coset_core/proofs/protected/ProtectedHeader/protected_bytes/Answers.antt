use Rattle.std.proofs.Common.{ap, ◌∙◌, option_map}
use Rattle.coset_core.specs.ViewLaws.{protected-opened}
use Rattle.coset_core.specs.Views.{protected_view}
use Rattle.coset_core.proofs.Keeping.{shortest-fresh_bytes}
use Rattle.coset_core.proofs.protected.ProtectedHeader.protected_bytes.Goals as goal

pub returns-clause-shortest : goal.returns-clause-shortest
returns-clause-shortest c =
    let opened = protected-opened c.args.self.now in
    let unread = ap (λ p. p.original) opened ∙ ap (option_map (λ v. v.items)) c.in_default.is in
    shortest-fresh_bytes (protected_view c.args.self.now) _ _ unread (ap (λ p. p.header) opened) c.in_ok-fresh_bytes.ensures.shortest
