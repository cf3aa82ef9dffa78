use Rattle.std.proofs.Common.{sym}
use Rattle.coset_cbor.specs.Pulls.{pull_item}
use Rattle.coset_claims.specs.Claims.{claim_name, name_view}
use Rattle.coset_claims.proofs.ClaimSplitting.{is_named}
use Rattle.coset_claims.proofs.known.is_name.Goals as goal

pub returns-clause-named : goal.returns-clause-named
unfolding claim_name
returns-clause-named c = is_named name_view (pull_item c.args.key) c.in_ok-read_alone.field-0 c.is_ok.result c.in_ok-read_alone.ensures.alone
    (sym c.is_ok.ensures.value)
