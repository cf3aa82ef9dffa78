use Rattle.std.proofs.Common.{◌≡◌, ℤ, inl, inr, rules, subst}
use Rattle.std.specs.Int.{w64}
use mir.Val.{of_z, to_z}
use Rattle.coset.specs.Registry.{first_numbered}
use Rattle.coset.specs.WithPrivateRange.{is_private_use}
use Rattle.coset_iana.specs.Algorithm as algorithms
use Rattle.coset_iana.specs.HeaderParameter as parameters
use Rattle.coset_iana.specs.CwtClaimName as claims
use Rattle.coset_iana.specs.declared.algorithms.TheConstants.{ALGORITHMS}
use Rattle.coset_iana.specs.declared.headers.TheConstants.{HEADER_PARAMETERS}
use Rattle.coset_iana.specs.declared.claims.TheConstants.{CWT_CLAIM_NAMES}
use Rattle.tool_fault.specs.Registries.{IsOutside}
use Rattle.tool_fault.proofs.Standing.{standing}
use Rattle.tool_fault.proofs.registry.is_unassigned_and_not_private.Goals as goal

pub returns-then-is_outside : goal.returns-then-is_outside
returns-then-is_outside c = λ _.
    let number : to_z w64 (of_z w64 c.in-Some.number) ≡ c.in-Some.number = search rules in
    standing c.args.bytes.now (λ v same. (
      c.in-Some.number,
      same,
      inl (subst (λ (z : ℤ). IsOutside (first_numbered algorithms.number ALGORITHMS) is_private_use z) number
          (c.is_outside.ensures c.if-is_outside.true)),
    )) c.in-Some.ensures

pub returns-then-is_outside-2 : goal.returns-then-is_outside-2
returns-then-is_outside-2 c = λ _.
    let number : to_z w64 (of_z w64 c.in-Some.number) ≡ c.in-Some.number = search rules in
    standing c.args.bytes.now (λ v same. (
      c.in-Some.number,
      same,
      inr (inl (subst (λ (z : ℤ). IsOutside (first_numbered parameters.number HEADER_PARAMETERS) is_private_use z) number
          (c.is_outside-2.ensures c.if-is_outside-2.true))),
    )) c.in-Some.ensures

pub returns : goal.returns
returns c = λ outside.
    let number : to_z w64 (of_z w64 c.in-Some.number) ≡ c.in-Some.number = search rules in
    standing c.args.bytes.now (λ v same. (
      c.in-Some.number,
      same,
      inr (inr (subst (λ (z : ℤ). IsOutside (first_numbered claims.number CWT_CLAIM_NAMES) is_private_use z) number
          (c.is_outside-3.ensures outside))),
    )) c.in-Some.ensures
