use Rattle.std.proofs.Common.{◌≡◌, ℤ, inl, inr, rules, subst}
use Rattle.std.specs.Int.{w64}
use mir.Val.{of_z, to_z}
use Rattle.coset.specs.Registry.{first_numbered}
use Rattle.coset_iana.specs.CoapContentFormat as formats
use Rattle.coset_iana.specs.KeyType as key_types
use Rattle.coset_iana.specs.KeyOperation as operations
use Rattle.coset_iana.specs.declared.content_formats.TheConstants.{COAP_CONTENT_FORMATS}
use Rattle.coset_iana.specs.declared.keys.TheConstants.{KEY_TYPES, KEY_OPERATIONS}
use Rattle.tool_fault.specs.Registries.{HasNoName}
use Rattle.tool_fault.proofs.Standing.{standing}
use Rattle.tool_fault.proofs.registry.is_unassigned.Goals as goal

pub returns-then-has_no_name : goal.returns-then-has_no_name
returns-then-has_no_name c = λ _.
    let number : to_z w64 (of_z w64 c.in-Some.number) ≡ c.in-Some.number = search rules in
    standing c.args.bytes.now (λ v same. (
      c.in-Some.number,
      same,
      inl (subst (λ (z : ℤ). HasNoName (first_numbered formats.number COAP_CONTENT_FORMATS) z) number (c.has_no_name.ensures c.if-has_no_name.true)),
    )) c.in-Some.ensures

pub returns-then-has_no_name-2 : goal.returns-then-has_no_name-2
returns-then-has_no_name-2 c = λ _.
    let number : to_z w64 (of_z w64 c.in-Some.number) ≡ c.in-Some.number = search rules in
    standing c.args.bytes.now (λ v same. (
      c.in-Some.number,
      same,
      inr (inl (subst (λ (z : ℤ). HasNoName (first_numbered key_types.number KEY_TYPES) z) number (c.has_no_name-2.ensures c.if-has_no_name-2.true))),
    )) c.in-Some.ensures

pub returns : goal.returns
returns c = λ none.
    let number : to_z w64 (of_z w64 c.in-Some.number) ≡ c.in-Some.number = search rules in
    standing c.args.bytes.now (λ v same. (
      c.in-Some.number,
      same,
      inr (inr (subst (λ (z : ℤ). HasNoName (first_numbered operations.number KEY_OPERATIONS) z) number (c.has_no_name-3.ensures none))),
    )) c.in-Some.ensures
