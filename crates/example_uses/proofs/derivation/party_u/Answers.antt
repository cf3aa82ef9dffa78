use Rattle.std.proofs.Common.{Some, option_map, refl, rules, subst, sym}
use Rattle.coset_value.specs.View.{value_item}
use Rattle.coset_claims.specs.Party.{nonce_view}
use Rattle.example_uses.specs.Derivation.{IsNonce}
use Rattle.example_uses.proofs.derivation.party_u.Goals as goal

pub returns-in_ok-read_nonce-in-Some : goal.returns-in_ok-read_nonce-in-Some
returns-in_ok-read_nonce-in-Some c =
    let n = nonce_view c.in_ok-read_nonce-in-Some.field-0 in (
      Some n,
      subst (λ o. IsNonce (option_map (λ v. value_item v.now) o) (Some n)) (sym c.in-Some.is) (n, refl, c.in_ok-read_nonce-in-Some.ensures),
      search rules,
    )
