use Rattle.std.proofs.Common.{◌≡◌, ◌∙◌, Some, ap, option_map, sym}
use Rattle.std.specs.Borrow.{Bor}
use Rattle.coset_value.specs.View.{value_item}
use Rattle.coset_value.specs.declared.value.Value.{Value}
use Rattle.coset_claims.specs.Claims.{claims_view}
use Rattle.example_uses.specs.Attestation.{submodule_of}
use Rattle.example_uses.proofs.Attested.{no_memory}
use Rattle.example_uses.proofs.attestation.submodule_claims.Goals as goal

pub returns-in_err-clone-in-Some : goal.returns-in_err-clone-in-Some
returns-in_err-clone-in-Some c =
    let found : submodule_of c.args.name.now (claims_view c.args.claims.now) ≡ Some (value_item c.in-Some.value.now) = sym c.submodule.ensures
    ∙ ap (option_map (λ (v : Bor Value). value_item v.now)) c.in-Some.is in
    no_memory c.args.name.now (claims_view c.args.claims.now) (value_item c.in-Some.value.now) c.from_residual.result c.from_residual.ensures.1 found
